pub mod Laws
pub mod Holding
pub mod After
pub mod Singly
pub mod Aside
pub mod Levels
