-- What a command needs, and what it changes.
-- Read AllowedCommands first.
pub mod AllowedCommands
pub mod CommandLemmas
pub mod ListsSteps
