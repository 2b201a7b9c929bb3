pub mod Origins
pub mod Followers
pub mod Live
pub mod Gather
pub mod ByBlock
