pub mod AnswerValues
pub mod CallValues
pub mod Notes
