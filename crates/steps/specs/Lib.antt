pub mod Step
pub mod Run
pub mod Whole
pub mod Held
pub mod Keeping
pub mod Counting
pub mod Soundness
