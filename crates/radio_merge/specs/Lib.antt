pub mod Merged
pub mod Replays
pub mod Covered
