use Rattle.std.proofs.Common.{sym, subst}
use Rattle.radio_core.proofs.Words.{StandsForSome}
use Rattle.radio_core.proofs.Kept.StepLemmas.{opening_stands}
use Rattle.radio_core.proofs.server.Core.new.Goals as goal

pub invariant_of-result : goal.invariant_of-result
invariant_of-result c = subst StandsForSome (sym c.new.ensures) (opening_stands c.args.settings c.args.lists)
