pub mod Fit
pub mod Bits
pub mod Lists
pub mod Rules
pub mod Plain
pub mod Outcome
pub mod Stops
