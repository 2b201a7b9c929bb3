mod Causes
mod Defined
mod Delivered
