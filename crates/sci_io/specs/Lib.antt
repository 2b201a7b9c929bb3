pub mod Causes
pub mod Taken
pub mod Files
pub mod Memory
pub mod Buffered
pub mod Transfer
