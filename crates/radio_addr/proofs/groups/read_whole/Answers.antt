use Rattle.std.proofs.Common.{true, arith}
use Rattle.std.proofs.lemmas.Bool.{eq-eqb, ne_eqb}
use Rattle.radio_addr.specs.Addresses.{groups_of}
use Rattle.radio_addr.proofs.CountsLemmas.{whole_read}
use Rattle.radio_addr.proofs.groups.read_whole.Goals as goal

pub returns-in_err-groups : goal.returns-in_err-groups
returns-in_err-groups c = rw c.from_residual.ensures (whole_read (groups_of true c.args.text.now) _ c.in_err-groups.ensures)

pub returns-then-groups-eq-MOST : goal.returns-then-groups-eq-MOST
returns-then-groups-eq-MOST c =
    rw (eq-eqb c.in_ok-groups.groups.count 8 (omega arith)) at (whole_read (groups_of true c.args.text.now) _ c.in_ok-groups.ensures)

pub returns-else-groups-eq-MOST : goal.returns-else-groups-eq-MOST
returns-else-groups-eq-MOST c =
    rw (ne_eqb c.in_ok-groups.groups.count 8 (λ e. omega arith)) at (whole_read (groups_of true c.args.text.now) _ c.in_ok-groups.ensures)
