pub mod Ending
mod Stepped
