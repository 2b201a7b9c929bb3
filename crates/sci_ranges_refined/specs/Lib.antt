pub mod Sums
pub mod Choices
pub mod Laws
