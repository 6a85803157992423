pub mod Drawn
pub mod Readers
