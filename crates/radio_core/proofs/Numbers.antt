-- Numbers rise, and the totals add up.
-- Read TotalLemmas first.
pub mod TotalLemmas
pub mod NumbersRise
pub mod NumbersStay
