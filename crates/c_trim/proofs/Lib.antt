pub mod Named
pub mod Slots
pub mod Runs
pub mod Whole
pub mod Rules
pub mod Listing
pub mod Marking
