mod Pieces
mod Steps
pub mod ValueLines
