pub mod Once
pub mod First
pub mod Played
pub mod Back
pub mod Short
pub mod Theorems
