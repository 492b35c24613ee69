use Rattle.std.proofs.Common.{◌∙◌, sym, arith}
use Rattle.radio_masters.proofs.Words.{take_all, most_listed}
use Rattle.radio_masters.proofs.Popped.{front_popped}
use Rattle.radio_masters.proofs.listed.keep_first.Goals as goal

pub others-preserved : goal.others-preserved
others-preserved c =
    front_popped most_listed c.others.names.keys c.pop_last.new.self.keys c.pop_last.result
    (c.pop_last.ensures.variant.1 (omega (arith, c.len.ensures.len, c.others-test.true))) c.pop_last.ensures.removal
    (omega (arith, c.len.ensures.len, c.others-test.true))
    ∙ c.others.invariant

pub returns-clause-kept : goal.returns-clause-kept
returns-clause-kept c =
    sym (take_all most_listed c.others.names.keys (omega (arith, c.len.ensures.len, c.others-test.false))) ∙ c.others.invariant
