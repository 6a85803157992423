pub mod Heads
pub mod Put
pub mod Laws
