pub mod Keeping
mod Tallying
pub mod Walks
mod Feeding
pub mod Lawful
