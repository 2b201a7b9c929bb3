pub mod Coded
pub mod Counting
pub mod Ends
pub mod Traced
