pub mod BudgetLemmas
pub mod LawLemmas
pub mod TagLemmas
