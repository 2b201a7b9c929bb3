pub mod CheckSteps
pub mod CheckedLemmas
