-- Definitions that serve the inside: no public clause cites them.
pub mod Content
pub mod Halves
pub mod Hearing
