pub mod Said
pub mod Once
pub mod Most
