pub mod DialogProofs
pub mod SessionEndProofs
pub mod SessionProofs
pub mod TimerProofs
pub mod WithinLemmas
