pub mod Settling
pub mod FaultTexts
pub mod Woven
pub mod Words
