pub mod Conditions
pub mod Laws
