pub mod WalkLaws
pub mod CarryLemmas
pub mod TurnLemmas
pub mod FaresLemmas
pub mod HisTurn
pub mod Faring
pub mod MovedCounts
pub mod HeardLemmas
pub mod FitsLemmas
pub mod EndLemmas
mod Words
