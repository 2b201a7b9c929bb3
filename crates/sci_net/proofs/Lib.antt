pub mod Numbered
pub mod ReadRows
pub mod TypedSpecs
