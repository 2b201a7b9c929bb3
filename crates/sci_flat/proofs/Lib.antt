pub mod Filling
pub mod Reaching
pub mod Stopping
pub mod Meaning
pub mod Formed
pub mod Net
pub mod Whole
pub mod Making
pub mod Reading
pub mod PortCount
pub mod Room
pub mod Verdicts
pub mod ReachFilling
pub mod Leading
pub mod Searching
pub mod ReachReaching
pub mod Listing
pub mod Valid
pub mod Naming
pub mod Walking
pub mod Finding
pub mod Placing
pub mod Tagging
pub mod StepsWhole
pub mod Joining
mod Lists
mod Leads
mod OneBefore
mod Before
mod SingleBlocks
pub mod TagSource
pub mod Source
pub mod Origins
pub mod Sharing
