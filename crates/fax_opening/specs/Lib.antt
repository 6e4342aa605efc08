pub mod Faults
pub mod Openings
