use Rattle.std.proofs.Common.{[], refl, arith}
use Rattle.radio_headline.proofs.DrawLemmas.{draws_are_cut, draws_are_stretches}
use Rattle.radio_headline.proofs.laws.draws_are_stretches.Goals as goal

pub returns-clause-slices : goal.returns-clause-slices
returns-clause-slices c settings lists events id = draws_are_stretches settings lists events (c.stretches_are_whole.ensures.stretches settings lists events) id

pub returns-clause-cut : goal.returns-clause-cut
returns-clause-cut c settings lists events id = draws_are_cut settings lists events (c.stretches_are_whole.ensures.cut settings lists events) id

-- no client has the number 0, as if it had left
pub returns-clause-nobody : goal.returns-clause-nobody
returns-clause-nobody c settings lists events = (c.who_left_is_gone.ensures.gone settings lists [] events 0 (omega arith, refl)).brings_nothing
