pub mod HeaderLemmas
pub mod ReadingLemmas
pub mod SearchLemmas
pub mod WritingLemmas
pub mod LineLemmas
pub mod EndLemmas
pub mod FoundLemmas
pub mod ValueLemmas
pub mod ReadBackLemmas
pub mod AnswerLemmas
pub mod AdditionLemmas
mod WebLemmas
mod AddedLemmas
