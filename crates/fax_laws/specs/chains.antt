pub mod Given
pub mod GoOn
pub mod Links
pub mod Times
