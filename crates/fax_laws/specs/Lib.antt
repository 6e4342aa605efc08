pub mod chains
pub mod deadlines
pub mod delivery
pub mod exchanges
