pub mod Adding
pub mod Parts
pub mod Going
pub mod Leaking
pub mod Choosing
