pub mod Laws
pub mod Emits
