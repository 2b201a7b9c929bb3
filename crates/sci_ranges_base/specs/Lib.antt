pub mod Intervals
pub mod Cells
pub mod Fitting
pub mod Wide
pub mod Masks
pub mod Laws
