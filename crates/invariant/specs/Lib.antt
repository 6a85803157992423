pub mod Ghost
pub mod Facts
pub mod Sound
