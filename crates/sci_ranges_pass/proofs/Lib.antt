pub mod Entering
pub mod Taking
pub mod Telling
pub mod Passing
pub mod Living
pub mod Widest
