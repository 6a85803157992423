pub mod Tries
pub mod Answers
pub mod Listed
pub mod Ample
pub mod Number
pub mod Unique
