pub mod Parts
pub mod Flat
pub mod Net
pub mod Sources
