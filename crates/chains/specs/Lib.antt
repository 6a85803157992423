pub mod Member
pub mod Seg
