pub mod Patterns
pub mod Words
pub mod Rules
pub mod Laws
