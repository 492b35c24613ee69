-- Listeners' seats: walks, moves, limits and access.
-- Read TableSteps first, then RowSteps and WalkLemmas.
pub mod TableSteps
pub mod RowSteps
pub mod WalkLemmas
pub mod WalkingOnLemmas
pub mod StayingOn
pub mod MountLemmas
pub mod LastMountLemmas
pub mod HeardLaws
pub mod OnDemandLemmas
pub mod LimitLemmas
pub mod ListsLemmas
pub mod AccessLemmas
