mod ByteLemmas
mod EscapeLemmas
pub mod DeviceLemmas
mod SpellingLemmas
mod LineReadings
mod FeedLemmas
mod TranscriptLemmas
mod LinePlays
mod ScriptPlays
mod RunLemmas
pub mod LawLemmas
pub mod SimulationLemmas
mod Words
