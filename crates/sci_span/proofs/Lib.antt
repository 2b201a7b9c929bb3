pub mod Runs
pub mod Copying
pub mod Singles
pub mod Lone
