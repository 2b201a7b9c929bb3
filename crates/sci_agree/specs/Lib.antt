pub mod Lines
pub mod Verdict
pub mod Compared
pub mod Laws
