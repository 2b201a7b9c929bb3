pub mod Forms
pub mod Phase
pub mod Serving
pub mod Placed
pub mod Givers
pub mod Laws
pub mod Worked
