pub mod repeat
pub mod holding
