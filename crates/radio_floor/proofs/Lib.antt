mod ExchangeLemmas
mod AnsweredLemmas
mod ToldLemmas
mod CoreDataLemmas
mod Simulation
mod OneCourse
mod ScriptStateLemmas
mod VisitLemmas
mod ServerSimulation
pub mod Weakened
mod OneTranscript
mod LastWordLemmas
mod PullEventLemmas
mod EventLemmas
mod Words
