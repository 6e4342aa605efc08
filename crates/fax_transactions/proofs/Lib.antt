pub mod ClientInviteProofs
pub mod ClientRequestProofs
pub mod RunProofs
pub mod ServerInviteProofs
pub mod ServerRequestProofs
