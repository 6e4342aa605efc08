pub mod Calls
pub mod Descriptions
pub mod Entries
pub mod Histories
pub mod Places
pub mod SwitchLaws
pub mod Tables
