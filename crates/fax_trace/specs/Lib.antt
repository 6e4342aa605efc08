pub mod Answers
pub mod Rep
pub mod EachScript
pub mod Playing
pub mod Scripts
pub mod Told
