-- An event depends on the mounts that it can reach, and leaves the others alone.
-- Read Agreeing first, then LocalityLemmas and PartLemmas.
pub mod Agreeing
pub mod AgreeingLists
pub mod AgreeingOutcomes
pub mod AgreeingWalks
pub mod LeftAlone
pub mod LocalityLemmas
pub mod LentPartLemmas
pub mod OwnDrawLemmas
pub mod OwnStepLemmas
pub mod PartLemmas
