pub mod Without
pub mod Short
