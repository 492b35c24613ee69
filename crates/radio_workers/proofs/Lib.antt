mod Sums
mod Balances
mod AcceptingLemmas
mod Cuts
pub mod Doings
mod Lingering
pub mod Partings
pub mod Takings
mod Words
