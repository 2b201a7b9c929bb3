pub mod RunLemmas
pub mod OutsetLemmas
pub mod DeclaredLemmas
