pub mod ClientLemmas
pub mod InboxLemmas
pub mod TellingLemmas
pub mod WaitLemmas
