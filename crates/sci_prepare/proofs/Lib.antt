mod Bulked
mod Coded
mod Defined
mod Judging
mod Lengths
mod Looked
mod Saving
mod Simulated
