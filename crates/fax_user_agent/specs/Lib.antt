pub mod Agents
pub mod Dues
pub mod Events
pub mod Intervals
pub mod Invites
pub mod Orders
pub mod Placings
pub mod Senders
