mod Observing
mod Going
mod Safe
mod Refusing
mod Longer
mod Ranged
mod Resuming
