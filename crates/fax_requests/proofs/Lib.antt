pub mod HangingLemmas
pub mod SecondsLemmas
