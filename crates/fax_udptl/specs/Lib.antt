pub mod Datagrams
pub mod FaultNumbers
pub mod Laws
pub mod Reading
pub mod Schedules
pub mod Sending
pub mod Slots
pub mod Taking
