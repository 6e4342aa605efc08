mod Weaker
pub mod Desking
pub mod Passings
mod Histories
mod Crossings
pub mod Openings
