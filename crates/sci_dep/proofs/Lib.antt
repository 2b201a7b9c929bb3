pub mod Waited
pub mod Walked
pub mod Tabled
