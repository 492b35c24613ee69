mod BegunSessions
pub mod DueLemmas
mod KilledLemmas
pub mod PartChanges
mod PreparedSeats
mod SilentLemmas
pub mod Threads
pub mod LentState
mod Words
