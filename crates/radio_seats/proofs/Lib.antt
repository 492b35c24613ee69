pub mod UserTrees
pub mod UserLemmas
pub mod KeptRows
pub mod RowLemmas
pub mod RowCounts
pub mod TestedRows
pub mod GivenRows
pub mod OtherLemmas
pub mod ListedLemmas
mod Words
