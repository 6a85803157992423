pub mod Points
pub mod Frames
pub mod Table
pub mod Turn
pub mod Laws
