pub mod Flat
pub mod Layout
pub mod Laws
