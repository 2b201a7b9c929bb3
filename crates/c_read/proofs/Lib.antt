pub mod Lengths
pub mod Splits
pub mod Reading
pub mod Standing
pub mod Blaming
pub mod Uniqueness
pub mod Rising
