pub mod BitLemmas
pub mod ChoiceLemmas
pub mod Choices
pub mod RegistrationProofs
pub mod SlowHostProofs
pub mod TextLemmas
