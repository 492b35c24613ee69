use Rattle.std.proofs.Common.{◌≡◌, ◌<◌, ℕ, List, Option, true, false, length, take, is_some, arith, ap, sym, ◌∙◌}
use Rattle.std.specs.BTreeMap.{get, is_at}
use Rattle.std.specs.Map.{lookup}
use Rattle.radio_settings_values.specs.Repeats.{is_among}
use Rattle.radio_settings_values.proofs.RepeatLemmas.{found_here, none_passed, order, passed_more}
use Rattle.radio_settings_values.proofs.PlaceLemmas.{among_passed, none_from_not_some, places_more}
use Rattle.radio_settings_values.proofs.places.places_of.Goals as goal

pub loop-place-init : goal.loop-place-init
loop-place-init c = (none_passed c.args.names.now, λ q. ap (lookup (is_at (order q))) c.new-places.ensures.empty)

pub returns-then-is_some-clause-apart : goal.returns-then-is_some-clause-apart
returns-then-is_some-clause-apart c =
    let names : List (List ℕ) = c.args.names.now in
    let i : ℕ = c.loop-place.place in
    let name : List ℕ = c.index-names-place.result in
    let low : i < length names = omega arith in
    let some : is_some (get order c.loop-place.places name) ≡ true = cc (ap (λ (o : Option ℕ). is_some o) c.in_ok-insert.ensures.old) in
    let old : is_among (take i names) name ≡ true = sym (among_passed names i name c.loop-place.places c.loop-place.invariant.1) ∙ some in
    found_here names i name low c.index-names-place.is old c.loop-place.invariant.0

pub loop-place-preserved : goal.loop-place-preserved
loop-place-preserved c =
    let names : List (List ℕ) = c.args.names.now in
    let i : ℕ = c.loop-place.place in
    let name : List ℕ = c.index-names-place.result in
    let low : i < length names = omega arith in
    let none : is_some (get order c.loop-place.places name) ≡ false = cc (ap (λ (o : Option ℕ). is_some o) c.in_ok-insert.ensures.old) in
    let new : is_among (take i names) name ≡ false = sym (among_passed names i name c.loop-place.places c.loop-place.invariant.1) ∙ none in (
      passed_more names i name low c.index-names-place.is new c.loop-place.invariant.0,
      places_more names i name c.loop-place.places c.insert.new.self low c.index-names-place.is
          (none_from_not_some _ none) c.in_ok-insert.ensures.updates c.loop-place.invariant.1,
    )
