pub mod Columns
pub mod Table
pub mod Reads
pub mod Told
pub mod Closed
pub mod Holds
pub mod Laws
