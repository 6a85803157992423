pub mod Whole
pub mod Laws
pub mod Meaning
pub mod Readings
pub mod Writings
pub mod OneMeaning
pub mod Unique
