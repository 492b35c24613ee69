-- What an event does to the session of one mount, and which sessions the clock ends.
-- Read SessionSteps first.
pub mod SessionSteps
pub mod UpdatedSessions
pub mod SilentLemmas
pub mod TickLemmas
