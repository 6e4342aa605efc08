mod Files
pub mod Headers
mod Steps
mod Recovery
mod Turned
mod Numbers
mod Shorts
mod Digests
mod ReadRecords
mod Places
mod Again
mod KnownPages
mod SpoolSteps
pub mod Loops
mod Shares
pub mod Order
mod Reopening
mod Openings
mod Told
mod TornCalls
mod Lost
mod Passed
mod Harming
pub mod Doing
pub mod ReadBack
