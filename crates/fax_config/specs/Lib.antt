pub mod Configurations
pub mod Faults
pub mod Members
pub mod SipConfigurations
pub mod SipMembers
