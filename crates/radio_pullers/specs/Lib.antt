pub mod Laws
pub mod Lists
pub mod Running
pub mod Threads
pub mod Turns
