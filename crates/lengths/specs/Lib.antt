pub mod Running
pub mod Lines
pub mod Events
