mod AnswerLemmas
pub mod Confirmations
pub mod EachMcf
pub mod EachReply
pub mod EachRtn
mod Examples
mod FollowingLemmas
mod HearingLemmas
mod Held
mod ImageLemmas
mod Places
mod InPage
pub mod Judging
mod Neat
mod OneReason
mod PacketLemmas
mod ReachedLemmas
mod Refused
pub mod Readings
pub mod Rests
mod SlotsLemmas
mod Tellings
pub mod Accepted
pub mod Rising
pub mod DueLemmas
mod InTime
pub mod Silence
mod Silences
mod OctetsLemmas
