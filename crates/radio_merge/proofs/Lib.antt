pub mod Covering
mod Steppings
pub mod Wholes
mod Words
