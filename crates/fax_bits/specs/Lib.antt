pub mod Bits
pub mod Laws
pub mod Losses
pub mod Reading
pub mod Writing
