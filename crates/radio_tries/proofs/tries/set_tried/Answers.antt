use Rattle.std.proofs.Common.{ap, sym, ◌∙◌}
use Rattle.radio_tries.proofs.Entries.{unset}
use Rattle.radio_tries.proofs.tries.set_tried.Goals as goal

pub returns-in_default : goal.returns-in_default
returns-in_default c = ap (λ m. m.entries) c.get_mut.follows.holds-at-none ∙ sym (unset _ _ _ (sym c.in_default.ensures.value))
