pub mod Count
pub mod Beginning
