pub mod Lists
pub mod SourcePair
pub mod ContentTypes
pub mod TypeExamples
pub mod CommandPairs
