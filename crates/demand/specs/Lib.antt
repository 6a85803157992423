pub mod History
pub mod Demand
