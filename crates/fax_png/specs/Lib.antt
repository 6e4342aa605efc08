pub mod Checksums
pub mod Greys
pub mod Pngs
