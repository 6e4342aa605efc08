pub mod AnswerLemmas
pub mod FollowLemmas
pub mod ReadingLemmas
pub mod StopLemmas
pub mod TickLemmas
