use Rattle.std.proofs.Common.{[], ◌∷◌, ◌++◌, ◌+◌, ℕ, sym, subst}
use Rattle.radio_merge.proofs.Words.{slice_set, stamp, Positions, Merged, TakesOwn}
use Rattle.radio_merge.proofs.positions.Positions.take_own.Goals as goal

pub returns : goal.returns
returns c order history merged =
    let family = c.args.family.now in
    let taken = c.in_ok-taken.taken in
    let entry = c.in_ok-entry.entry.now in
    let takes = TakesOwn order history c.args.self.now c.args.mount taken c.in_ok-taken.item.now entry merged c.in_ok-taken.ensures.next
    (sym c.in_ok-entry.ensures) in
    subst (λ (at : Positions). Merged family.control.items family.mounts.items (order ++ stamp (c.args.mount + 1) c.args.serial ∷ []) (history ++ entry ∷ []) at)
    (sym c.go_on.ensures)
    (subst (λ (n : ℕ). Merged family.control.items family.mounts.items (order ++ stamp (c.args.mount + 1) n ∷ []) (history ++ entry ∷ [])
    (record c.args.self.now { mounts = slice_set c.args.self.now.mounts c.args.mount (taken + 1) })) c.if-taken-serial.false takes)
