use Rattle.radio_texts.proofs.LawLemmas.{cut-first, cut-none}
use Rattle.radio_texts.proofs.laws.cuts.Goals as goal

pub returns-clause-first : goal.returns-clause-first
returns-clause-first c = cut-first

pub returns-clause-none : goal.returns-clause-none
returns-clause-none c = cut-none
