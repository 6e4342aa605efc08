pub mod AnswerLemmas
pub mod HexLemmas
pub mod PlayLemmas
pub mod ScriptLemmas
pub mod TextLemmas
pub mod WantedLemmas
