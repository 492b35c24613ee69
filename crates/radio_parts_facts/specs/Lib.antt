pub mod CommandFacts
pub mod Streams
pub mod Wanted
pub mod Listings
pub mod Pages
