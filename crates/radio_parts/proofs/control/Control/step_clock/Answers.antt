use Rattle.std.proofs.Common.{◌≡◌, Bool, false, ℕ, nat_lt, ap, sym, subst, ◌∙◌}
use Rattle.radio_parts.proofs.Words.{if◌then◌else◌, ticked, kept_changed, Nothing, Tick, only_time_changes, due_from_first, World}
use Rattle.std.proofs.lemmas.Bool.{le-ltb}
use Rattle.radio_parts.proofs.control.Control.step_clock.Goals as goal

pub returns-then-ms-self : goal.returns-then-ms-self
returns-then-ms-self c =
    let w = c.args.self.now in
    let ms = c.args.ms in
    let not_passed : nat_lt ms w.station.time ≡ false =
    subst (λ (time : ℕ). nat_lt ms time ≡ false) c.time.ensures (le-ltb ms c.time.result c.if-ms-time.false) in
    c.set_time.ensures ∙ only_time_changes c.self.inside.state c.self.inside.due_from ms c.self.invariant c.if-ms-self.true
    ∙ ap (λ (v : World). ticked v ms) c.self.view_is ∙ ap (λ (b : Bool). kept_changed w (if b then Nothing else Tick ms)) (sym not_passed)

pub invariant_of-self-2 : goal.invariant_of-self-2
invariant_of-self-2 c = rw c.first_due-self-inside.ensures (due_from_first c.tick.new.self)
