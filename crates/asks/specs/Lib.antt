pub mod Quiet
pub mod Listing
pub mod Inner
pub mod Laws
