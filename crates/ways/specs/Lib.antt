pub mod Schedules
pub mod Forced
pub mod Calls
pub mod Runs
pub mod Stretches
pub mod Copies
