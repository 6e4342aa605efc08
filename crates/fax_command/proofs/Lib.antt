pub mod AnswerLemmas
pub mod LineFeeds
pub mod LineTexts
pub mod PictureLemmas
pub mod PutLemmas
pub mod RowLineLemmas
pub mod TellLemmas
