pub mod Bounds
pub mod Cuts
mod Goodbyes
mod Handings
