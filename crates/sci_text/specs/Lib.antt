pub mod Reading
pub mod Numbers
pub mod Lines
pub mod Stops
