pub mod CleaningLemmas
mod NameLemmas
