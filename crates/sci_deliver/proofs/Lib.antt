mod Counted
mod Finished
mod Giving
mod Probing
mod Rests
mod Silent
mod Verdicts
