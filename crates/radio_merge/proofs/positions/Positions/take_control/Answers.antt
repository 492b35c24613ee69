use Rattle.std.proofs.Common.{◌≡◌, [], ◌∷◌, ◌++◌, ◌-◌, ℕ, length, sym, subst, arith}
use Rattle.radio_merge.proofs.Words.{stamp, Positions, Merged, TakesControl}
use Rattle.radio_merge.proofs.positions.Positions.take_control.Goals as goal

pub returns : goal.returns
returns c order history merged =
    let family = c.args.family.now in
    let inside = c.self.inside in
    let entry = c.in_ok-entry.entry.now in
    let before : Positions = record { control = inside.control.now; mounts = inside.mounts.items } in
    let after : Positions = record { control = c.in_ok-entry.rest.now; mounts = c.past_cuts.new.at.items } in
    let serial : length family.control.items - length c.in_ok-entry.rest.now ≡ c.args.serial =
    omega (arith, c.saturating_sub.ensures, c.len.ensures, c.if-saturating_sub-serial.false, family.control.ok.0) in
    subst (λ (n : ℕ). Merged family.control.items family.mounts.items (order ++ stamp 0 n ∷ []) (history ++ entry ∷ []) after) serial
    (TakesControl order history before after entry
    (subst (λ (at : Positions). Merged family.control.items family.mounts.items order history at) (sym c.self.view_is) merged) c.in_ok-entry.ensures)
