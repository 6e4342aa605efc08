pub mod Packets
pub mod Sounds
pub mod Streams
