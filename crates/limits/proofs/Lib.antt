pub mod Sums
pub mod Move
pub mod All
pub mod Few
pub mod Calls
pub mod Theorems
