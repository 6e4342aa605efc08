pub mod Laws
pub mod Moments
pub mod Paces
pub mod Spans
