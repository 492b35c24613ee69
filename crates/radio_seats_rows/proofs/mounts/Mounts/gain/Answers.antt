use Rattle.std.proofs.Common.{◌≡◌, ◌+◌, ◌==◌, List, refl, ap, sym, subst, ◌∙◌}
use Rattle.std.specs.Prelude.{if◌then◌else◌}
use Rattle.std.specs.Option.{option_copied}
use Rattle.radio_seats_rows.specs.declared.mounts.Mount.{Mount}
use Rattle.radio_seats_rows.specs.Mounts.{Prepared, name_in, sitting_of, sitting_in, naming_of, naming_in, AreMounts}
use Rattle.radio_seats_rows.proofs.MountCounts.{gained, named_then, still_mounts}
use Rattle.radio_seats_rows.proofs.mounts.Mounts.gain.Goals as goal

pub invariant_of-self : goal.invariant_of-self
invariant_of-self c =
    let inside = c.self.inside in
    let mount = c.in-Some.mount.now in
    let found = sym c.get.ensures ∙ ap option_copied c.in-Some.is in
    subst (λ (ms : List Mount). AreMounts inside.names ms inside.last) (sym c.change.ensures)
    (still_mounts inside.names inside.mounts inside.last c.args.number (mount.sitting + 1) (mount.naming + 1) mount found c.self.invariant)

pub returns-in-Some-clause-sitting : goal.returns-in-Some-clause-sitting
returns-in-Some-clause-sitting c = λ other.
    let inside = c.self.inside in
    let mount = c.in-Some.mount.now in
    let found = sym c.get.ensures ∙ ap option_copied c.in-Some.is in
    subst (λ (m : Prepared). sitting_in c.change.new.self other ≡ sitting_in m.mounts other + (if c.args.number == other then 1 else 0)) c.self.view_is
    (ap (λ (ms : List Mount). sitting_in ms other) c.change.ensures
    ∙ gained inside.names inside.mounts inside.last c.args.number (mount.sitting + 1) (mount.naming + 1) mount found sitting_of refl other)

pub returns-in-Some-clause-naming : goal.returns-in-Some-clause-naming
returns-in-Some-clause-naming c = λ other.
    let inside = c.self.inside in
    let mount = c.in-Some.mount.now in
    let found = sym c.get.ensures ∙ ap option_copied c.in-Some.is in
    subst (λ (m : Prepared). naming_in c.change.new.self other ≡ naming_in m.mounts other + (if c.args.number == other then 1 else 0)) c.self.view_is
    (ap (λ (ms : List Mount). naming_in ms other) c.change.ensures
    ∙ gained inside.names inside.mounts inside.last c.args.number (mount.sitting + 1) (mount.naming + 1) mount found naming_of refl other)

pub returns-in-Some-clause-names : goal.returns-in-Some-clause-names
returns-in-Some-clause-names c = λ other.
    let inside = c.self.inside in
    let mount = c.in-Some.mount.now in
    let found = sym c.get.ensures ∙ ap option_copied c.in-Some.is in
    subst (λ (m : Prepared). name_in c.change.new.self other ≡ name_in m.mounts other) c.self.view_is
    (ap (λ (ms : List Mount). name_in ms other) c.change.ensures
    ∙ named_then inside.names inside.mounts inside.last c.args.number (mount.sitting + 1) (mount.naming + 1) mount found other)
