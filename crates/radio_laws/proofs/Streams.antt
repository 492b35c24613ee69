-- What sources bring, and what listeners are given of it.
-- Read BroughtLemmas first, then StretchLemmas and TitleLemmas.
pub mod BroughtLemmas
pub mod BegunLemmas
pub mod SliceLemmas
pub mod StretchLemmas
pub mod TitleLemmas
