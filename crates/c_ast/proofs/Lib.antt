pub mod Views
pub mod Sizes
pub mod Fits
pub mod EventRows
