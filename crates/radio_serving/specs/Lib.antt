pub mod Admission
pub mod Kinds
pub mod Laws
pub mod Sources
pub mod Turns
pub mod Watching
pub mod Workers
