pub mod ConnectionLemmas
pub mod PartLemmas
pub mod TextLemmas
