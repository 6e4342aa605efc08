pub mod Cards
pub mod Calls
pub mod Keeps
pub mod StoredEnds
pub mod Dropped
pub mod held
