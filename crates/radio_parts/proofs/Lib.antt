pub mod CalledStation
mod CommonLemmas
pub mod DrawLemmas
pub mod HeardLemmas
mod LentState
pub mod ListingLemmas
pub mod PlannedLemmas
mod SeatedDraws
pub mod SmallOutcomes
pub mod Threads
pub mod Ways
mod Words
