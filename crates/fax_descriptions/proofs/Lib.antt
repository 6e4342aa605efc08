pub mod TaleLemmas
