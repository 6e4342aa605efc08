pub mod Holding
pub mod Storing
pub mod Telling
