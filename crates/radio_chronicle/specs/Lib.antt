pub mod History
pub mod Notes
pub mod Stamps
pub mod Lines
pub mod OwnSteps
pub mod Totals
