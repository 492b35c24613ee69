mod KeptQueues
pub mod ApartLemmas
pub mod DueLemmas
pub mod FurthestLemmas
pub mod KeptLists
pub mod KeptStreams
pub mod NumberLists
pub mod NumberOrder
pub mod PartLemmas
pub mod PreparedLemmas
pub mod RisingLemmas
pub mod SessionLookups
pub mod SilentSessions
pub mod TimeoutLemmas
pub mod DrawingLemmas
pub mod Departures
pub mod GrantLemmas
pub mod ListLemmas
pub mod OwnSteps
pub mod Threads
mod Words
