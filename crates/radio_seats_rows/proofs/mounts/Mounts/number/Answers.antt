use Rattle.std.proofs.Common.{◌≡◌, ℕ, ◌==◌, true, false, None, Some, ap, sym, subst, ◌∙◌}
use Rattle.std.specs.Option.{option_copied}
use Rattle.std.specs.Prelude.{is_some}
use Rattle.std.specs.Str.{bytes_eq}
use Rattle.radio_seats_rows.specs.SeatTable.{is_prepared}
use Rattle.radio_seats_rows.specs.Mounts.{Prepared, name_in}
use Rattle.radio_seats_rows.proofs.MountLemmas.{found_under, only_number, prepared_found}
use Rattle.radio_seats_rows.proofs.mounts.Mounts.number.Goals as goal

pub returns-in-Some-clause-only : goal.returns-in-Some-clause-only
returns-in-Some-clause-only c =
    let name = c.args.name.now in
    let inside = c.self.inside in
    subst (λ (m : Prepared). (k : ℕ) → bytes_eq (name_in m.mounts k) name ≡ (k == c.in-Some.entry.now.number)) c.self.view_is
    (only_number inside.names inside.mounts inside.last c.self.invariant name c.as_bytes.ensures.name (Some c.in-Some.entry.now.number)
    (ap (found_under inside.names inside.mounts inside.last c.self.invariant name c.as_bytes.ensures.name)
    (sym (ap option_copied c.in-Some.is) ∙ c.get.ensures)))

pub returns-in-Some-clause-prepared : goal.returns-in-Some-clause-prepared
returns-in-Some-clause-prepared c =
    let name = c.args.name.now in
    subst (λ (m : Prepared). true ≡ is_prepared m.names name) c.self.view_is
    (sym (prepared_found name c.self.inside.names ∙ ap is_some (sym c.get.ensures ∙ ap option_copied c.in-Some.is)))

pub returns-in-None-clause-only : goal.returns-in-None-clause-only
returns-in-None-clause-only c =
    let name = c.args.name.now in
    let inside = c.self.inside in
    subst (λ (m : Prepared). (k : ℕ) → bytes_eq (name_in m.mounts k) name ≡ false) c.self.view_is
    (only_number inside.names inside.mounts inside.last c.self.invariant name c.as_bytes.ensures.name None
    (ap (found_under inside.names inside.mounts inside.last c.self.invariant name c.as_bytes.ensures.name)
    (sym (ap option_copied c.in-None.is) ∙ c.get.ensures)))

pub returns-in-None-clause-prepared : goal.returns-in-None-clause-prepared
returns-in-None-clause-prepared c =
    let name = c.args.name.now in
    subst (λ (m : Prepared). false ≡ is_prepared m.names name) c.self.view_is
    (sym (prepared_found name c.self.inside.names ∙ ap is_some (sym c.get.ensures ∙ ap option_copied c.in-None.is)))
