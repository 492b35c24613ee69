pub mod Replies
mod PassLemmas
pub mod Threads
mod Words
