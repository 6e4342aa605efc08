pub mod BitLemmas
pub mod BitOrder
pub mod ReadBack
