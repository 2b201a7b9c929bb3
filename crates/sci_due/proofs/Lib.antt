pub mod Lists
pub mod Chosen
pub mod Tables
pub mod Scanning
pub mod Shown
pub mod Keeping
pub mod Programming
pub mod Pending
