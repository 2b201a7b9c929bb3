pub mod Looping
pub mod Opened
pub mod Asked
pub mod Patterning
pub mod Counting
pub mod Corners
pub mod Shifting
pub mod Dispatched
