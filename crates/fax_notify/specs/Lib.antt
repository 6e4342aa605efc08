pub mod Addresses
pub mod Carrying
pub mod Messages
pub mod Sendings
pub mod Tellings
