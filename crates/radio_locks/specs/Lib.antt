pub mod Replies
pub mod Concerned
pub mod Callers
