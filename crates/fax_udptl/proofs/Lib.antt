pub mod BlockLemmas
pub mod Honest
pub mod PacketLemmas
pub mod SlotLemmas
pub mod TakingLemmas
pub mod WrittenLemmas
