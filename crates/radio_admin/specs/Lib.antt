pub mod Kinds
pub mod Arguments
pub mod Commands
pub mod Laws
