pub mod Attributes
pub mod Counts
pub mod Media
pub mod Readers
pub mod Sessions
pub mod Texts
pub mod Writing
