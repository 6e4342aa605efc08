pub mod Tellings
pub mod Tales
pub mod Words
pub mod Reasons
