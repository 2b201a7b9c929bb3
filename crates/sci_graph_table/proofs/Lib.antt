pub mod Below
pub mod Sizes
pub mod Within
