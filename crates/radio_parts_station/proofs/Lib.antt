pub mod LiveMounts
pub mod Lookups
mod RelayRows
pub mod TimeoutLemmas
pub mod WaitingLemmas
mod Words
