pub mod Shown
pub mod Moments
pub mod Lines
pub mod Laws
