mod Allowed
mod AskedCalls
mod Confirmed
mod Cutting
pub mod DrivingLemmas
mod Examples
pub mod Fitting
mod Forwarding
mod Going
pub mod Hearing
pub mod Held
mod HonestCall
pub mod IdleLegs
pub mod InCalls
mod KeptApart
pub mod LegsRead
mod Living
mod McfAnswers
mod Newest
mod OfTheirCalls
mod OwnConfirmed
mod Preambles
mod RefusedJobs
pub mod Replied
mod Reporting
mod RtnAnswers
mod Restoring
pub mod ServedAlone
pub mod Serving
mod States
mod Steps
mod Ticking
mod Turning
pub mod Unplaced
mod Watched
mod WholeCall
pub mod Chained
pub mod Relayed
pub mod SentPages
pub mod Zeros
mod Resting
mod OctetsLemmas
pub mod McfGiven
pub mod McfHeard
pub mod OnePage
pub mod ShortPackets
pub mod EachLeg
pub mod CalledHears
