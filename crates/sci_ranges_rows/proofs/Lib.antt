pub mod Marking
pub mod Placed
pub mod Testing
