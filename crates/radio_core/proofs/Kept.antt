-- What a core keeps of each stream: its last blocks, which are enough for every step.
-- Read StepLemmas first.
pub mod KeptListings
pub mod KeptOutcomes
pub mod KeptRuns
pub mod KeptSeats
pub mod KeptSights
pub mod KeptSteps
pub mod CanSteps
pub mod StepLemmas
pub mod CoreReplyLemmas
pub mod SourceReplyLemmas
