pub mod Numbers
pub mod Ends
pub mod Fitted
pub mod Hulls
pub mod Chosen
