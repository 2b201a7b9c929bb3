pub mod WordLemmas
pub mod LibraryLemmas
