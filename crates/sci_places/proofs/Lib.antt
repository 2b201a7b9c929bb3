pub mod Lists
pub mod Outputs
pub mod Inputs
pub mod Placed
pub mod Laid
