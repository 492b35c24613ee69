pub mod Numbers
pub mod Addresses
pub mod Counts
pub mod Lists
pub mod Writing
pub mod Laws
