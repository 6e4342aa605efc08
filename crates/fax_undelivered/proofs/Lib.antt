pub mod CardBack
pub mod Listing
mod PutAgain
mod Dropping
pub mod Numbered
mod Closing
mod Coming
mod Ending
mod NotDropped
pub mod Alone
