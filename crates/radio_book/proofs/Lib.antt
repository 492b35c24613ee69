pub mod Newcomers
pub mod Threads
pub mod OwnLemmas
pub mod MountBookLemmas
mod DrawLemmas
mod HistoryLemmas
mod ClockLemmas
mod Words
