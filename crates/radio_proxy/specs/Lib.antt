pub mod Headers
pub mod Laws
pub mod Greetings
pub mod Pending
