pub mod CallCuts
mod CutLemmas
pub mod FirstFormat
pub mod NewestLemmas
pub mod OctetsLemmas
mod OneCut
pub mod Reporting
pub mod TakenPages
