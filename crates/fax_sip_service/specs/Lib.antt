pub mod Laws
pub mod Numbers
pub mod Peers
pub mod Services
pub mod Words
