pub mod Terms
pub mod Recipes
pub mod Laws
pub mod Texts
pub mod Meant
pub mod Keeping
pub mod Plain
