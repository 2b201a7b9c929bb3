pub mod Lines
pub mod Paged
pub mod Threes
