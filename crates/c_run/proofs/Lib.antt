pub mod Elements
pub mod Counts
pub mod Progress
pub mod Columns
pub mod StepLemmas
pub mod Weights
pub mod Calls
pub mod Wholes
