pub mod Answers
pub mod Hearings
pub mod Laws
pub mod Sayings
