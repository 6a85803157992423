pub mod Drawn
pub mod Alike
pub mod Rows
pub mod Detour
pub mod Together
pub mod Theorems
