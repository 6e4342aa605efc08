pub mod Descriptors
pub mod Services
pub mod Statuses
