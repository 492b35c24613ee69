pub mod Parts
pub mod Agree
pub mod Exchange
pub mod Attached
pub mod Listening
pub mod Losses
pub mod Lent
