pub mod Values
pub mod Entering
pub mod Singles
