pub mod Web
pub mod Repeats
pub mod Places
pub mod Options
pub mod Least
