pub mod Lists
pub mod MountLemmas
pub mod MountCounts
pub mod SeatLaws
pub mod GivenLaws
pub mod EndLaws
pub mod CountLaws
