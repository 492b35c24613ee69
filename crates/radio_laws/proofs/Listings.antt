-- What listings and the web site show, and to whom.
-- Read ListingRows first, then ListingLaws and SightLemmas.
pub mod ListingRows
pub mod ListingLaws
pub mod SightLemmas
pub mod WebLaws
pub mod ToldTexts
