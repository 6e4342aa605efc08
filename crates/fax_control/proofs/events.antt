pub mod QueueLemmas
pub mod TextLemmas
