pub mod Spans
pub mod Layout
pub mod Calls
pub mod Running
pub mod Answering
