pub mod Reading
pub mod LineReading
pub mod LineBounds
pub mod LineView
pub mod Machine
pub mod MachineView
pub mod Blame
