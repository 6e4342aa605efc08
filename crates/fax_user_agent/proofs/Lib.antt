pub mod ChoiceLemmas
pub mod DueLemmas
pub mod Hearing
