pub mod Objects
pub mod Tree
pub mod Names
pub mod Numbers
pub mod Weight
pub mod Telling
pub mod Reading
pub mod Count
