mod AtMostLemmas
pub mod ItemsLemmas
pub mod PullLemmas
pub mod RequestLemmas
pub mod CutLemmas
pub mod BareLemmas
pub mod RelayLemmas
mod Words
