pub mod Faults
pub mod Files
pub mod Folders
pub mod Naming
pub mod Storing
pub mod Runs
