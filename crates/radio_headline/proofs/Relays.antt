-- What comes on the connections of relays: of scripts, and in histories.
-- Read RelayWords first, then PullEntries and PullCourses.
pub mod RelayWords
pub mod RelayLogs
pub mod PullParts
pub mod PullEntries
pub mod PullTurns
pub mod PullCourses
pub mod PullSteps
