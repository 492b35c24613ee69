-- The standing of each client after an event: which client asked, which it moves and which it finishes.
-- Read Standings first, then Fates and ClientSteps.
pub mod Standings
pub mod Fates
pub mod CarriedFates
pub mod CalledHome
pub mod Effects
pub mod Obeyed
pub mod ClientSteps
pub mod FinishLemmas
pub mod OwnLemmas
pub mod ReplyLemmas
pub mod ArrivalLemmas
pub mod ClosingLemmas
pub mod NamedRules
