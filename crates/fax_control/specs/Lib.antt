pub mod Answers
pub mod ClientStreams
pub mod Options
pub mod Words
pub mod events
