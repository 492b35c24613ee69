pub mod Block
pub mod Weaving
pub mod Stream
pub mod Unweaving
pub mod Bare
pub mod Items
pub mod Titles
