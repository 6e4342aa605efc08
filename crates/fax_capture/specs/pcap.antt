pub mod Blocks
pub mod Captures
pub mod Datagrams
pub mod Fields
pub mod Frames
