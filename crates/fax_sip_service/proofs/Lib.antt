pub mod LawLemmas
pub mod NumberLemmas
pub mod PeerLemmas
pub mod ServiceLemmas
