pub mod AcceptsLemmas
pub mod UserLaws
