pub mod Syntax
pub mod View
pub mod Spelling
pub mod Bounds
pub mod Events
pub mod Rules
