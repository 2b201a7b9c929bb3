pub mod Verdicts
pub mod OneFlat
pub mod Phases
mod OnePlan
