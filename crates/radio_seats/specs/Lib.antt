pub mod Users
pub mod Shown
pub mod Lent
pub mod Listed
pub mod Further
