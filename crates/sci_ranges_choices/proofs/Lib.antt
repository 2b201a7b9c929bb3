pub mod Inputs
pub mod Lookings
pub mod Sums
