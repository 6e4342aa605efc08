pub mod Arriving
pub mod Befalling
pub mod Counting
pub mod Noted
pub mod Obeying
pub mod Redialling
pub mod Restoring
pub mod Trying
