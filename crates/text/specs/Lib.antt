pub mod Text
pub mod Answer
pub mod Reading
pub mod Laws
pub mod Unique
