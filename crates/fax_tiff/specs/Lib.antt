pub mod Directories
pub mod ReadTiffs
pub mod Shown
pub mod Strips
pub mod TiffLaws
pub mod WrittenTiffs
