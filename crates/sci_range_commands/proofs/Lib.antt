mod Causes
mod Giving
mod Looked
