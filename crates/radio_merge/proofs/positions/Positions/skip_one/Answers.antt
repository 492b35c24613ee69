use Rattle.std.proofs.Common.{sym, subst}
use Rattle.radio_merge.proofs.Words.{Positions, Merged, LeavesOut}
use Rattle.radio_merge.proofs.positions.Positions.skip_one.Goals as goal

pub returns : goal.returns
returns c order history merged =
    let family = c.args.family.now in
    subst (λ (at : Positions). Merged family.control.items family.mounts.items order history at) (sym c.go_on.ensures)
    (LeavesOut order history c.args.self.now c.args.mount c.in-Some.taken c.in-Some.item.now merged c.in-Some.ensures.next
    (sym c.if-not-is_left_out.ensures))
