pub mod Meaning
pub mod Turns
pub mod Work
pub mod Rounds
pub mod Stations
pub mod Relays
pub mod Settled
pub mod Running
