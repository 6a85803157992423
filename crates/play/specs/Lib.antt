pub mod Play
pub mod Parts
pub mod Steps
pub mod Laws
