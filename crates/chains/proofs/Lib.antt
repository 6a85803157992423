pub mod Members
pub mod Links
