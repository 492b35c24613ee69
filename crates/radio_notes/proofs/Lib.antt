mod AgentLemmas
mod VisitLemmas
