pub mod Memory
pub mod Steps
pub mod Values
pub mod Frames
pub mod Loops
pub mod Programs
pub mod Texts
