pub mod Rounds
pub mod Entries
pub mod Programming
pub mod Rows
pub mod Reacting
pub mod Against
