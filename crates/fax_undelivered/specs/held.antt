pub mod Files
pub mod Held
pub mod Lines
pub mod Bounds
