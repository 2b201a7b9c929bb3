pub mod Ranges
pub mod Taken
pub mod Told
pub mod Pass
pub mod Laws
