pub mod Readings
pub mod View
pub mod Beside
pub mod Widest
pub mod Live
