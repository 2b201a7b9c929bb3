pub mod Steps
pub mod Numbers
pub mod Rows
pub mod Wholes
