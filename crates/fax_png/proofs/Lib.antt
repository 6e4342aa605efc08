pub mod CrcLemmas
pub mod GreyLemmas
pub mod LineLemmas
pub mod PartLemmas
