pub mod CountsLemmas
pub mod ListsLemmas
pub mod WritingLemmas
pub mod LawLemmas
