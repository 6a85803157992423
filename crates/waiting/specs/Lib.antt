pub mod Waiting
pub mod Inner
pub mod Laws
