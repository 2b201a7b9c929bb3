mod Blamed
pub mod Courses
mod Dumped
pub mod Looking
pub mod RunFiles
mod Whole
