pub mod Places
pub mod Using
pub mod Doing
pub mod Placed
pub mod Kept
