pub mod AnswerLemmas
pub mod FieldLemmas
pub mod PartLemmas
pub mod TextLemmas
pub mod WrittenLemmas
