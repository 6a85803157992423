pub mod Layout
pub mod Inner
pub mod Laws
pub mod Copy
pub mod Copies
