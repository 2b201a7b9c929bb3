pub mod Listing
pub mod Numbering
pub mod Assigning
pub mod Knowing
pub mod Judging
