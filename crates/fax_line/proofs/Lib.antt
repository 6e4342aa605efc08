mod AllStored
mod Connected
mod Early
mod Given
mod Goings
mod Heard
mod StoredRunning
mod Missing
mod Places
mod Slots
mod Stepping
pub mod Telling
mod Turning
pub mod Recorded
pub mod Running
