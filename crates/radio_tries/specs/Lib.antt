pub mod Laws
pub mod Pauses
pub mod Pulls
pub mod Tries
pub mod Wishes
