pub mod Entries
pub mod Orders
pub mod Queues
mod Words
