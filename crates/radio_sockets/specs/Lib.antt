pub mod Entering
pub mod Entitled
pub mod Faults
pub mod Gone
pub mod Laws
pub mod Names
pub mod Peers
pub mod Steps
