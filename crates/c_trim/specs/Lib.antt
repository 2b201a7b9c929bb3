pub mod Trim
pub mod Candidates
pub mod Laws
