pub mod Course
pub mod Sources
pub mod Lawful
pub mod Listeners
pub mod Scripts
pub mod Served
pub mod Histories
