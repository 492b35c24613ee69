pub mod Block
pub mod Chunk
pub mod Cutting
pub mod Gathering
pub mod Queue
pub mod QueueLaws
pub mod Parts
pub mod Pieces
