pub mod Stepped
pub mod Leaked
pub mod Leaks
pub mod Totals
