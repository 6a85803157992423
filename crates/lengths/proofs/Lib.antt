pub mod Ends
pub mod Events
