use Rattle.std.proofs.Common.{sym, ap, ◌∙◌}
use Rattle.std.specs.Prelude.{is_some}
use Rattle.radio_seats_rows.proofs.MountLemmas.{prepared_still}
use Rattle.radio_seats_rows.proofs.mounts.Mounts.prepare.Goals as goal

pub returns-in-Some-clause-prepared : goal.returns-in-Some-clause-prepared
returns-in-Some-clause-prepared c = λ other.
    prepared_still c.args.self.now.names c.args.name.now other (sym c.number.ensures.prepared ∙ ap is_some c.in-Some.is)
