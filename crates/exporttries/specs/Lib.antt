pub mod Reply
pub mod Once
