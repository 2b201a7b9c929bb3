pub mod TestLemmas
pub mod Rings
pub mod Tables
pub mod Arrays
