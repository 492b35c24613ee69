use Rattle.std.proofs.Common.{◌≡◌, ℕ, ◌<◌, true, List, None, Some, refl, ap, sym, subst, ◌∙◌}
use Rattle.std.specs.Prelude.{find, map, not, ◌&&◌}
use Rattle.std.specs.Str.{bytes_eq}
use Rattle.radio_seats_rows.specs.declared.mounts.Mount.{Mount}
use Rattle.radio_seats_rows.specs.declared.mounts.NumberedName.{NumberedName}
use Rattle.radio_seats_rows.specs.SeatTable.{is_prepared}
use Rattle.radio_seats_rows.specs.Mounts.{Prepared, is_named, name_in, sitting_of, sitting_in, naming_of, naming_in, AreMounts}
use Rattle.radio_seats_rows.proofs.Lists.{none_removed}
use Rattle.radio_seats_rows.proofs.MountLemmas.{entry_name, mounts_left, left_mounts, prepared_left, prepared_no_less, count_left, named_left}
use Rattle.radio_seats_rows.proofs.mounts.Mounts.release.Goals as goal

pub invariant_of-self : goal.invariant_of-self
invariant_of-self c =
    let inside = c.self.inside in
    let found : find (is_named c.args.name.now) inside.names ≡ Some c.in-Some.entry = sym c.remove.ensures.value ∙ c.in-Some.is in
    subst (λ (ms : List Mount). AreMounts c.remove.new.self ms inside.last) (sym c.remove-in-Some.ensures.removed)
    (subst (λ (ns : List NumberedName). AreMounts ns (mounts_left inside.names inside.mounts inside.last c.self.invariant c.args.name.now c.in-Some.entry found) inside.last)
    (sym c.remove.ensures.removed)
    (left_mounts inside.names inside.mounts inside.last c.self.invariant c.args.name.now c.in-Some.entry found))

pub invariant_of-self-in_default : goal.invariant_of-self-in_default
invariant_of-self-in_default c =
    let inside = c.self.inside in
    let none : find (is_named c.args.name.now) inside.names ≡ None = sym c.remove.ensures.value ∙ c.in_default.is in
    subst (λ (ns : List NumberedName). AreMounts ns inside.mounts inside.last)
    (sym (c.remove.ensures.removed ∙ none_removed (is_named c.args.name.now) inside.names none)) c.self.invariant

pub returns-in-Some-clause-prepared : goal.returns-in-Some-clause-prepared
returns-in-Some-clause-prepared c = λ other.
    let inside = c.self.inside in
    let name = c.args.name.now in
    let found : find (is_named name) inside.names ≡ Some c.in-Some.entry = sym c.remove.ensures.value ∙ c.in-Some.is in
    subst (λ (m : Prepared). is_prepared (map entry_name c.remove.new.self) other ≡ (is_prepared m.names other && not (bytes_eq name other))) c.self.view_is
    (ap (λ ns. is_prepared (map entry_name ns) other) c.remove.ensures.removed
    ∙ prepared_left inside.names inside.mounts inside.last c.self.invariant name c.in-Some.entry found other)

pub returns-in-Some-clause-sitting : goal.returns-in-Some-clause-sitting
returns-in-Some-clause-sitting c = λ number.
    let inside = c.self.inside in
    let name = c.args.name.now in
    let found : find (is_named name) inside.names ≡ Some c.in-Some.entry = sym c.remove.ensures.value ∙ c.in-Some.is in
    let nobody = subst (λ (m : Prepared). (k : ℕ) → bytes_eq (name_in m.mounts k) name ≡ true → sitting_in m.mounts k ≡ 0) (sym c.self.view_is) c.requires.sitting in
    subst (λ (m : Prepared). sitting_in c.remove-in-Some.new.self number ≡ sitting_in m.mounts number) c.self.view_is
    (ap (λ ms. sitting_in ms number) c.remove-in-Some.ensures.removed
    ∙ count_left inside.names inside.mounts inside.last c.self.invariant name c.in-Some.entry found sitting_of refl nobody number)

pub returns-in-Some-clause-naming : goal.returns-in-Some-clause-naming
returns-in-Some-clause-naming c = λ number.
    let inside = c.self.inside in
    let name = c.args.name.now in
    let found : find (is_named name) inside.names ≡ Some c.in-Some.entry = sym c.remove.ensures.value ∙ c.in-Some.is in
    let nobody = subst (λ (m : Prepared). (k : ℕ) → bytes_eq (name_in m.mounts k) name ≡ true → naming_in m.mounts k ≡ 0) (sym c.self.view_is) c.requires.naming in
    subst (λ (m : Prepared). naming_in c.remove-in-Some.new.self number ≡ naming_in m.mounts number) c.self.view_is
    (ap (λ ms. naming_in ms number) c.remove-in-Some.ensures.removed
    ∙ count_left inside.names inside.mounts inside.last c.self.invariant name c.in-Some.entry found naming_of refl nobody number)

pub returns-in-Some-clause-names : goal.returns-in-Some-clause-names
returns-in-Some-clause-names c = λ number some.
    let inside = c.self.inside in
    let name = c.args.name.now in
    let found : find (is_named name) inside.names ≡ Some c.in-Some.entry = sym c.remove.ensures.value ∙ c.in-Some.is in
    let nobody = subst (λ (m : Prepared). (k : ℕ) → bytes_eq (name_in m.mounts k) name ≡ true → naming_in m.mounts k ≡ 0) (sym c.self.view_is) c.requires.naming in
    let named = subst (λ (m : Prepared). 0 < naming_in m.mounts number) (sym c.self.view_is) some in
    subst (λ (m : Prepared). name_in c.remove-in-Some.new.self number ≡ name_in m.mounts number) c.self.view_is
    (ap (λ ms. name_in ms number) c.remove-in-Some.ensures.removed
    ∙ named_left inside.names inside.mounts inside.last c.self.invariant name c.in-Some.entry found naming_of refl nobody number named)

pub returns-in_default-clause-prepared : goal.returns-in_default-clause-prepared
returns-in_default-clause-prepared c = λ other.
    let inside = c.self.inside in
    let name = c.args.name.now in
    let none : find (is_named name) inside.names ≡ None = sym c.remove.ensures.value ∙ c.in_default.is in
    subst (λ (m : Prepared). is_prepared (map entry_name c.remove.new.self) other ≡ (is_prepared m.names other && not (bytes_eq name other))) c.self.view_is
    (ap (λ ns. is_prepared (map entry_name ns) other) (c.remove.ensures.removed ∙ none_removed (is_named name) inside.names none)
    ∙ prepared_no_less inside.names name other none)
