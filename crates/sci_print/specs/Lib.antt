pub mod Line
pub mod Map
pub mod Numbers
pub mod Values
