mod BadGateways
mod Given
mod GoOn
mod Links
mod Octets
mod Times
