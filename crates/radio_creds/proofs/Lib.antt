pub mod ColonLemmas
pub mod AuthorizationLemmas
pub mod ListedLemmas
pub mod LinesLemmas
pub mod LawLemmas
