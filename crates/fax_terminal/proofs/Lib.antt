pub mod AnsweringLemmas
pub mod CallingLemmas
pub mod EachCame
mod EndLemmas
mod WholeCalls
