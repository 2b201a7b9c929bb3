mod BulkRuns
mod Commands
mod Counted
mod DumpRuns
mod Generated
mod Judging
mod Lines
mod OneAnswer
pub mod Resumed
pub mod RunsAlike
mod RunsDue
pub mod ShortColumns
mod Statuses
