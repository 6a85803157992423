pub mod Bounds
pub mod Trying
pub mod InRoom
pub mod Laws
pub mod Once
