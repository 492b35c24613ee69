pub mod ChunkLine
pub mod Place
pub mod Position
pub mod Feeding
pub mod Outputs
pub mod Chunked
