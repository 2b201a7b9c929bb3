pub mod Branches
pub mod First
pub mod Places
pub mod View
