pub mod Gaps
pub mod Peers
pub mod Policies
pub mod Repeats
pub mod Telling
