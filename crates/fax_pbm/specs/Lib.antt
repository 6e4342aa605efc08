pub mod Heads
pub mod Pictures
