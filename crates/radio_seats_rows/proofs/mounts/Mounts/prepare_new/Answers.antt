use Rattle.std.proofs.Common.{◌≡◌, ◌<◌, ◌||◌, List, refl, ap, sym, subst, ◌∙◌}
use Rattle.std.specs.Prelude.{filter, map, not}
use Rattle.std.specs.Str.{bytes_eq}
use Rattle.radio_seats_rows.specs.declared.mounts.Mount.{Mount}
use Rattle.radio_seats_rows.specs.declared.mounts.NumberedName.{NumberedName}
use Rattle.radio_seats_rows.specs.SeatTable.{is_prepared}
use Rattle.radio_seats_rows.specs.Mounts.{Prepared, is_numbered, name_in, sitting_of, sitting_in, naming_of, naming_in, AreMounts}
use Rattle.radio_seats_rows.proofs.MountLemmas.{entry_name, mounts_then, more_mounts, not_prepared, prepared_then, count_then, name_in_then, taken_back}
use Rattle.radio_seats_rows.proofs.mounts.Mounts.prepare_new.Goals as goal

abbrev shown : List Mount → List NumberedName → Prepared
shown ms ns = record { names = map entry_name ns; mounts = ms }

pub invariant_of-self-in-Ok : goal.invariant_of-self-in-Ok
invariant_of-self-in-Ok c =
    let inside = c.self.inside in
    let name = c.args.name.now in
    let none = not_prepared inside.names name (ap (λ (m : Prepared). is_prepared m.names name) c.self.view_is ∙ c.requires) in
    subst (λ (ms : List Mount). AreMounts c.insert-2.new.self ms c.in-Some.number) (sym c.in_ok-insert.ensures.ok)
    (subst (λ (ns : List NumberedName). AreMounts ns (mounts_then inside.names inside.mounts inside.last c.self.invariant name c.in-Some.number none c.in-Some.ensures.1) c.in-Some.number) (sym c.in-Ok.ensures.ok)
    (more_mounts inside.names inside.mounts inside.last c.self.invariant name c.in-Some.number none c.in-Some.ensures.1))

pub returns-in-Ok-clause-prepared : goal.returns-in-Ok-clause-prepared
returns-in-Ok-clause-prepared c = λ other.
    let inside = c.self.inside in
    let name = c.args.name.now in
    let none = not_prepared inside.names name (ap (λ (m : Prepared). is_prepared m.names name) c.self.view_is ∙ c.requires) in
    subst (λ (m : Prepared). is_prepared (map entry_name c.insert-2.new.self) other ≡ (is_prepared m.names other || bytes_eq name other)) c.self.view_is
    (ap (λ (ns : List NumberedName). is_prepared (map entry_name ns) other) c.in-Ok.ensures.ok
    ∙ prepared_then inside.names inside.mounts inside.last c.self.invariant name c.in-Some.number none c.in-Some.ensures.1 other)

pub returns-in-Ok-clause-sitting : goal.returns-in-Ok-clause-sitting
returns-in-Ok-clause-sitting c = λ number.
    let inside = c.self.inside in
    let name = c.args.name.now in
    let none = not_prepared inside.names name (ap (λ (m : Prepared). is_prepared m.names name) c.self.view_is ∙ c.requires) in
    subst (λ (m : Prepared). sitting_in c.insert.new.self number ≡ sitting_in m.mounts number) c.self.view_is
    (ap (λ (ms : List Mount). sitting_in ms number) c.in_ok-insert.ensures.ok
    ∙ count_then inside.names inside.mounts inside.last c.self.invariant name c.in-Some.number none c.in-Some.ensures.1 sitting_of refl number)

pub returns-in-Ok-clause-naming : goal.returns-in-Ok-clause-naming
returns-in-Ok-clause-naming c = λ number.
    let inside = c.self.inside in
    let name = c.args.name.now in
    let none = not_prepared inside.names name (ap (λ (m : Prepared). is_prepared m.names name) c.self.view_is ∙ c.requires) in
    subst (λ (m : Prepared). naming_in c.insert.new.self number ≡ naming_in m.mounts number) c.self.view_is
    (ap (λ (ms : List Mount). naming_in ms number) c.in_ok-insert.ensures.ok
    ∙ count_then inside.names inside.mounts inside.last c.self.invariant name c.in-Some.number none c.in-Some.ensures.1 naming_of refl number)

pub returns-in-Ok-clause-names : goal.returns-in-Ok-clause-names
returns-in-Ok-clause-names c = λ number some.
    let inside = c.self.inside in
    let name = c.args.name.now in
    let none = not_prepared inside.names name (ap (λ (m : Prepared). is_prepared m.names name) c.self.view_is ∙ c.requires) in
    let named = subst (λ (m : Prepared). 0 < naming_in m.mounts number) (sym c.self.view_is) some in
    subst (λ (m : Prepared). name_in c.insert.new.self number ≡ name_in m.mounts number) c.self.view_is
    (ap (λ (ms : List Mount). name_in ms number) c.in_ok-insert.ensures.ok
    ∙ name_in_then inside.names inside.mounts inside.last c.self.invariant name c.in-Some.number none c.in-Some.ensures.1 number named)

-- where the second is refused the first is taken back
back : (c : goal.After-remove) → c.remove.new.self ≡ c.self.inside.mounts
back c =
    let inside = c.self.inside in
    let name = c.args.name.now in
    let none = not_prepared inside.names name (ap (λ (m : Prepared). is_prepared m.names name) c.self.view_is ∙ c.requires) in
    c.remove.ensures.removed
    ∙ ap (filter (λ (mount : Mount). not (is_numbered c.in-Some.number mount))) c.in_ok-insert.ensures.ok
    ∙ taken_back inside.names inside.mounts inside.last c.self.invariant name c.in-Some.number none c.in-Some.ensures.1

pub invariant_of-self-in-Err : goal.invariant_of-self-in-Err
invariant_of-self-in-Err c =
    let inside = c.self.inside in
    subst (λ (ms : List Mount). AreMounts c.insert-2.new.self ms inside.last) (sym (back c))
    (subst (λ (ns : List NumberedName). AreMounts ns inside.mounts inside.last) (sym c.in-Err.ensures.err) c.self.invariant)

pub returns-in-Err-clause-sitting : goal.returns-in-Err-clause-sitting
returns-in-Err-clause-sitting c = λ number.
    ap (λ (ms : List Mount). sitting_in ms number) (back c) ∙ ap (λ (m : Prepared). sitting_in m.mounts number) c.self.view_is

pub returns-in-Err-clause-naming : goal.returns-in-Err-clause-naming
returns-in-Err-clause-naming c = λ number.
    ap (λ (ms : List Mount). naming_in ms number) (back c) ∙ ap (λ (m : Prepared). naming_in m.mounts number) c.self.view_is

pub returns-in-Err-clause-names : goal.returns-in-Err-clause-names
returns-in-Err-clause-names c = λ number some.
    ap (λ (ms : List Mount). name_in ms number) (back c) ∙ ap (λ (m : Prepared). name_in m.mounts number) c.self.view_is

pub returns-in-Err-clause-err : goal.returns-in-Err-clause-err
returns-in-Err-clause-err c =
    let inside = c.self.inside in
    ap (λ (ms : List Mount). shown ms c.insert-2.new.self) (back c) ∙ ap (shown inside.mounts) c.in-Err.ensures.err ∙ c.self.view_is
