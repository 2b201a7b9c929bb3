pub mod Fronts
pub mod Levels
pub mod Together
pub mod ByDepth
