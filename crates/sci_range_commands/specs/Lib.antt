pub mod Due
pub mod Prepared
pub mod Deliver
pub mod Meets
