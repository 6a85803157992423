pub mod Mem
pub mod Step
pub mod View
pub mod Queues
