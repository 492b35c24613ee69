pub mod JsonLemmas
pub mod PublicLemmas
pub mod AdminLemmas
pub mod ListenerLemmas
pub mod IcecastLemmas
pub mod LawLemmas
