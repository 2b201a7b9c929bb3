pub mod Untagged
mod Walking
mod Keys
mod Holding
mod Gathering
mod Takers
