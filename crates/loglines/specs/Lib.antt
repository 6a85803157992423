pub mod Lines
pub mod Ink
pub mod Laws
