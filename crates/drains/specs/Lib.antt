pub mod Naming
pub mod Drains
pub mod Examples
