pub mod Capabilities
pub mod Choice
pub mod FieldBits
pub mod Frames
pub mod Laws
pub mod Rates
pub mod Written
