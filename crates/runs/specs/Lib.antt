pub mod Runs
pub mod Starred
