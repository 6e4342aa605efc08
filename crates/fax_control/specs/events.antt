pub mod Counts
pub mod Events
pub mod Queues
