pub mod BulkCounted
pub mod Defined
pub mod Prepare
