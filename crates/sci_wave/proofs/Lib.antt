pub mod Blockwise
pub mod Followed
pub mod Completed
pub mod SomeDump
pub mod Driven
mod OneWaveform
pub mod OneDump
