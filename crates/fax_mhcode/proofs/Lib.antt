pub mod LineLaws
pub mod LineLemmas
pub mod FaultLaws
pub mod WriteLemmas
pub mod WrittenLaws
pub mod WrittenOnce
pub mod PairLemmas
pub mod ReadOrFail
