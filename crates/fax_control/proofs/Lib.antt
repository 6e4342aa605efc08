pub mod OptionLemmas
pub mod SayingLemmas
pub mod SpaceLemmas
pub mod WordLemmas
