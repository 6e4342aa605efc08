pub mod Bodies
pub mod Hanging
pub mod Intervals
pub mod Reasons
pub mod Refreshing
pub mod Responding
pub mod Seconds
