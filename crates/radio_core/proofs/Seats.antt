-- What an event does to one seat.
-- Read SeatSteps first.
pub mod SeatSteps
pub mod GivenSeats
pub mod LostSeats
pub mod SeatedLemmas
pub mod HeardApart
pub mod ChangedUsers
pub mod CommandedSeats
