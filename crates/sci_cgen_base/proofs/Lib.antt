pub mod LaidLemmas
pub mod RowLemmas
pub mod TextLemmas
pub mod NetLemmas
