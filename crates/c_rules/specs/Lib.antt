pub mod Naming
pub mod Assigning
pub mod Bodies
pub mod Knowing
