pub mod Feeds
pub mod FirstNot
pub mod Places
pub mod PortLemmas
pub mod TestLemmas
