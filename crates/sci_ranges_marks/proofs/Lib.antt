pub mod FirstEvents
pub mod Rowed
pub mod Marked
pub mod Placed
pub mod Tested
