pub mod AttributeLemmas
pub mod CountLemmas
pub mod ReadLemmas
pub mod TextLemmas
pub mod ToldLemmas
pub mod WriteLemmas
