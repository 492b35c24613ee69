pub mod BlockLemmas
pub mod WeavingLemmas
pub mod UnweavingLemmas
pub mod ItemsLemmas
pub mod TitlesLemmas
pub mod StreamLemmas
pub mod BareLemmas
pub mod UnwovenLemmas
