pub mod Broken
pub mod Ports
pub mod Numbers
pub mod Form
pub mod Words
pub mod Forms
pub mod Typed
