pub mod Entries
pub mod Lists
pub mod Visits
pub mod Past
