pub mod Behind
pub mod Stands
pub mod Laws
