pub mod Desking
pub mod Histories
pub mod StoredRuns
pub mod Runs
pub mod Crossings
pub mod restarts
