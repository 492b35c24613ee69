pub mod Json
pub mod Objects
pub mod Public
pub mod Admin
pub mod Listeners
pub mod Icecast
pub mod Reached
pub mod Laws
