pub mod Writing
pub mod Parts
pub mod Laws
pub mod Meanings
pub mod OneText
pub mod Unique
