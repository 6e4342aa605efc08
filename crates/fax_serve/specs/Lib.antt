pub mod Damages
pub mod Served
