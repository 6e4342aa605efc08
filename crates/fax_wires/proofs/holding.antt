pub mod Clocks
pub mod Held
pub mod Telling
