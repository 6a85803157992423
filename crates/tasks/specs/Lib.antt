pub mod Tasks
pub mod Parts
pub mod Laws
pub mod Unique
