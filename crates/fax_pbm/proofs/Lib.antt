pub mod HeadLemmas
pub mod PageLemmas
pub mod RowLemmas
