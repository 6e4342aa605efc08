pub mod PieceLemmas
pub mod TimesLemmas
