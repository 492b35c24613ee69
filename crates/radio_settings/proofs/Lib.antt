mod FaultLemmas
mod PartLemmas
mod DocumentLemmas
mod LawLemmas
mod OnLiterals
mod SectionLemmas
