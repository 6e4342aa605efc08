mod Dropping
mod Ending
