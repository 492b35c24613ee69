pub mod Cuts
pub mod Lines
pub mod Numbers
pub mod Blanks
