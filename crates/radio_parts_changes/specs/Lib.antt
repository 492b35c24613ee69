pub mod Prepared
pub mod Changes
pub mod Counts
pub mod Due
pub mod KeptChanges
pub mod Lent
