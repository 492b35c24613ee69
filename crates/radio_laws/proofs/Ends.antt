-- Which clients have left or were finished, and what the clock ends.
-- Read StationSteps first, then GoneLemmas and TickOrder.
pub mod StationSteps
pub mod GoneLemmas
pub mod FallbackLemmas
pub mod InTime
pub mod TickOrder
pub mod TickEnds
pub mod ToldLemmas
