-- What holds of every state of a run holds still after each event.
-- Read Soundness first, then SoundRuns.
pub mod Soundness
pub mod SoundEnds
pub mod SoundRuns
pub mod SoundSessions
pub mod SoundTitles
