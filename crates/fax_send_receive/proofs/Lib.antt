pub mod FileLemmas
pub mod StoringLemmas
