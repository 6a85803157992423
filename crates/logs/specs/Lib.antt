pub mod Log
pub mod Parts
pub mod Listed
pub mod Fits
pub mod Laws
pub mod Once
