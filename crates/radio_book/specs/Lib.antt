pub mod Receipts
pub mod Newcomers
pub mod MountBooks
pub mod Clocks
pub mod LentParts
pub mod ControlLists
