pub mod FrontLemmas
pub mod PackedBits
pub mod RunsLemmas
