mod Answered
mod Examples
mod FollowingLemmas
mod GivingLemmas
mod HearingLemmas
mod JobLemmas
mod RepLemmas
mod MakingLemmas
mod Numbered
mod PacketLemmas
pub mod PacketsBack
mod Paddings
mod Paged
pub mod Refusals
mod Tally
mod TextLemmas
mod Tellings
mod Unanswered
mod Waiting
pub mod ClosedPackets
pub mod Emitted
pub mod EmittedOrder
pub mod FinePackets
pub mod GivenSignals
pub mod ImagesInOrder
mod OneKind
pub mod NoEom
pub mod SignalsGiven
pub mod ToldFrames
pub mod Due
pub mod GivingUp
pub mod Lacking
pub mod Texts
pub mod Told
pub mod DueLemmas
pub mod Silence
pub mod RefusedPages
pub mod Steps
pub mod Tries
pub mod InTime
pub mod Ending
pub mod Longest
