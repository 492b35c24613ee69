pub mod FaultLines
pub mod Checks
pub mod Binding
pub mod Ends
