pub mod FaultNumbers
pub mod Laws
pub mod LineFaults
pub mod Lines
pub mod Pairs
