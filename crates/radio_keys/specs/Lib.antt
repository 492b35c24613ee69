pub mod Keys
pub mod Lookup
pub mod Rows
pub mod Reading
pub mod Words
