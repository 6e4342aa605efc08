pub mod CallEnds
pub mod EntryLemmas
pub mod Findings
pub mod Holding
pub mod Preserving
pub mod Stages
pub mod Stepping
pub mod SwitchProofs
