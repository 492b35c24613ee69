pub mod LawLemmas
pub mod GreetingLemmas
