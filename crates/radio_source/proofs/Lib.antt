pub mod PlaceLemmas
pub mod ChunkLineLemmas
pub mod FeedingLemmas
pub mod OutputLemmas
pub mod ChunkedLemmas
pub mod WholeLemmas
pub mod OpenLemmas
