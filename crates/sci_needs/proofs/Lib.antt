pub mod Sensors
pub mod Columns
