pub mod Parts
pub mod Scans
pub mod Numbers
pub mod Splits
pub mod Ends
pub mod Clear
pub mod FirstWrong
