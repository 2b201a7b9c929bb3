pub mod Names
pub mod Program
pub mod Shows
pub mod Passes
pub mod Laws
pub mod Stepping
