pub mod Words
pub mod Table
pub mod Verdicts
