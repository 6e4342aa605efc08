pub mod AnswerValues
pub mod Answers
pub mod Pictures
pub mod RowLines
pub mod Runs
pub mod Statuses
pub mod StreamFaults
pub mod Streams
