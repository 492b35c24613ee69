pub mod Sides
pub mod Order
pub mod Forks
mod AtFork
pub mod Bounds
mod Cuts
