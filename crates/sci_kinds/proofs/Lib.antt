pub mod Elements
pub mod Inputs
pub mod TypedLemmas
pub mod Ranges
pub mod LawLemmas
pub mod LawProofs
