pub mod Judged
pub mod Look
pub mod RunFiles
