pub mod CalendarLemmas
pub mod RunLemmas
pub mod ShownLemmas
pub mod WordLemmas
pub mod LineLemmas
pub mod ByteLemmas
pub mod ReadLemmas
