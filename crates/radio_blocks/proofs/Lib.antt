pub mod BlockLemmas
pub mod ChunkLemmas
pub mod PartLemmas
pub mod QueueLemmas
