pub mod Events
pub mod Replies
pub mod Texts
pub mod Servers
pub mod Endings
