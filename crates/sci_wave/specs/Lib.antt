pub mod History
pub mod RunDump
pub mod Noted
pub mod Following
pub mod Laws
