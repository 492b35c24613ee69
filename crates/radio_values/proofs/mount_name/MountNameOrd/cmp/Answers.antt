use Rattle.std.proofs.Common.{sym, ◌∙◌}
use Rattle.std.specs.Cmp.{Equal-is}
use Rattle.std.specs.Cmp.Lexicographic.{slice_cmp}
use Rattle.std.specs.Ordering.{nat_cmp}
use Rattle.std.proofs.lemmas.Map.Text.{is_eq-slice_cmp}
use Rattle.radio_values.proofs.mount_name.MountNameOrd.cmp.Goals as goal

pub returns-then-eq : goal.returns-then-eq
returns-then-eq c =
    let one = c.args.self.now in
    let other = c.args.other.now in
    sym ((Equal-is (slice_cmp nat_cmp one other)).0 (is_eq-slice_cmp one other ∙ sym c.eq.ensures ∙ c.if-eq.true))
