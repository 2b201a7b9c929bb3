pub mod SumLemmas
pub mod KindLemmas
