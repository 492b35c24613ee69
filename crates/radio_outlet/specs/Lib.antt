pub mod Queues
pub mod Batches
pub mod Failures
pub mod Outages
