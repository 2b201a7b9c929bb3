pub mod Stays
pub mod Meanings
