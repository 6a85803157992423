pub mod Begin
pub mod Laws
pub mod Keeping
