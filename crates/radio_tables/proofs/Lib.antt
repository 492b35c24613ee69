pub mod EntryLemmas
pub mod FindLaws
pub mod EachLaws
pub mod KeyLaws
pub mod VisitLaws
