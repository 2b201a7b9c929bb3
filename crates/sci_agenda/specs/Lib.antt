pub mod Firing
pub mod Chained
pub mod Wheel
pub mod FiringOrder
