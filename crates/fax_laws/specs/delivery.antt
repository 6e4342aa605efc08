pub mod Datagrams
pub mod Delivered
pub mod Gateways
pub mod Jobs
pub mod Links
