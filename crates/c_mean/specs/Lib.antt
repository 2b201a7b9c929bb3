pub mod Meaning
pub mod Places
pub mod Texts
pub mod Runs
pub mod Programs
pub mod Laws
