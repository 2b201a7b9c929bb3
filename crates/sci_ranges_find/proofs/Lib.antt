pub mod Branching
pub mod Choices
pub mod Counted
pub mod Entering
pub mod Living
pub mod Passing
pub mod Readings
pub mod Wholes
