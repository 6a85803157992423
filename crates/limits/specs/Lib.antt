pub mod Course
pub mod Limits
