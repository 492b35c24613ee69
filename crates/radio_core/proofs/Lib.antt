pub mod Kept
pub mod Sound
pub mod Clients
pub mod Seats
pub mod Sessions
pub mod Numbers
pub mod Commands
pub mod Threads
mod Words
