use Rattle.std.proofs.Common.{◌≡◌, ◌-◌, ◌==◌, List, refl, ap, sym, subst, ◌∙◌, arith}
use Rattle.std.specs.Prelude.{if◌then◌else◌}
use Rattle.std.specs.Option.{option_copied}
use Rattle.radio_seats_rows.specs.declared.mounts.Mount.{Mount}
use Rattle.radio_seats_rows.specs.Mounts.{Prepared, IsThere, name_in, sitting_of, sitting_in, naming_of, naming_in, one_at, AreMounts}
use Rattle.radio_seats_rows.proofs.MountCounts.{kept, lost, named_then, still_mounts, there_still}
use Rattle.radio_seats_rows.proofs.mounts.Mounts.give_up.Goals as goal

pub invariant_of-self : goal.invariant_of-self
invariant_of-self c =
    let inside = c.self.inside in
    let found = sym c.get.ensures ∙ ap option_copied c.in-Some-get.is in
    subst (λ (ms : List Mount). AreMounts inside.names ms inside.last) (sym c.change.ensures)
    (still_mounts inside.names inside.mounts inside.last c.in-Some.number c.in-Some-get.mount.now.sitting c.saturating_sub-naming.result c.in-Some-get.mount.now found c.self.invariant)

pub returns-in-Some-get-clause-sitting : goal.returns-in-Some-get-clause-sitting
returns-in-Some-get-clause-sitting c = λ other.
    let inside = c.self.inside in
    let mount = c.in-Some-get.mount.now in
    let found = sym c.get.ensures ∙ ap option_copied c.in-Some-get.is in
    subst (λ (m : Prepared). sitting_in c.change.new.self other ≡ sitting_in m.mounts other) c.self.view_is
    (ap (λ (ms : List Mount). sitting_in ms other) c.change.ensures
    ∙ kept inside.names inside.mounts inside.last c.in-Some.number mount.sitting c.saturating_sub-naming.result mount found sitting_of refl other)

pub returns-in-Some-get-clause-naming : goal.returns-in-Some-get-clause-naming
returns-in-Some-get-clause-naming c = λ other.
    let inside = c.self.inside in
    let mount = c.in-Some-get.mount.now in
    let found = sym c.get.ensures ∙ ap option_copied c.in-Some-get.is in
    let count = c.saturating_sub-naming.result in
    let less : count ≡ mount.naming - 1 = omega arith in
    subst (λ (m : Prepared). naming_in c.change.new.self other ≡ naming_in m.mounts other - (if c.in-Some.number == other then 1 else 0)) c.self.view_is
    (ap (λ (ms : List Mount). naming_in ms other) c.change.ensures
    ∙ lost inside.names inside.mounts inside.last c.in-Some.number mount.sitting count mount found naming_of 1 less other)
    ∙ ap (λ n. naming_in c.args.self.now.mounts other - one_at n other) (sym c.in-Some.is)

pub returns-in-Some-get-clause-names : goal.returns-in-Some-get-clause-names
returns-in-Some-get-clause-names c = λ other.
    let inside = c.self.inside in
    let found = sym c.get.ensures ∙ ap option_copied c.in-Some-get.is in
    subst (λ (m : Prepared). name_in c.change.new.self other ≡ name_in m.mounts other) c.self.view_is
    (ap (λ (ms : List Mount). name_in ms other) c.change.ensures
    ∙ named_then inside.names inside.mounts inside.last c.in-Some.number c.in-Some-get.mount.now.sitting c.saturating_sub-naming.result c.in-Some-get.mount.now found other)

pub returns-in-Some-get-clause-there : goal.returns-in-Some-get-clause-there
returns-in-Some-get-clause-there c = λ other there.
    let inside = c.self.inside in
    let found = sym c.get.ensures ∙ ap option_copied c.in-Some-get.is in
    subst (λ (ms : List Mount). IsThere ms other) (sym c.change.ensures)
    (there_still inside.names inside.mounts inside.last c.in-Some.number c.in-Some-get.mount.now.sitting c.saturating_sub-naming.result c.in-Some-get.mount.now found other
    (subst (λ (m : Prepared). IsThere m.mounts other) (sym c.self.view_is) there))
