pub mod NumbersLemmas
pub mod CutsLemmas
pub mod LawLemmas
