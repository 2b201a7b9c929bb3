pub mod Words
pub mod Bank
pub mod Library
pub mod Runs
