pub mod Deliver
pub mod Probe
