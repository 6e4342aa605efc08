pub mod Crossings
pub mod Files
pub mod Kills
pub mod Runs
pub mod WholePasts
