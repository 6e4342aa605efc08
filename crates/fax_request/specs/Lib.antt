pub mod Given
pub mod Requests
pub mod SpoolWords
