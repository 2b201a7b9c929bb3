pub mod State
pub mod Noted
pub mod Laws
