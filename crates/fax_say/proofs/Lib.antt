pub mod AnswerLemmas
pub mod HearingLemmas
mod LawLemmas
pub mod LineFeeds
