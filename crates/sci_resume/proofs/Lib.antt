pub mod Behind
pub mod SomeReached
pub mod Reactions
