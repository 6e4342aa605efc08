pub mod Books
pub mod Cuts
pub mod Jobs
pub mod Newest
pub mod Octets
pub mod Outcomes
pub mod Pasts
pub mod ReportTexts
