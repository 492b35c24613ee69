use Rattle.std.proofs.Common.{◌≡◌, ℕ, List, None, Some, map, ap, sym, ◌∙◌}
use Rattle.std.specs.List.{slice_get}
use Rattle.std.specs.Option.{option_and_then}
use Rattle.radio_settings_values.specs.Places.{place_of}
use Rattle.radio_settings_values.proofs.PlaceLemmas.{found_at_place}
use Rattle.radio_settings_values.proofs.mounts.NamedSettings.get.Goals as goal

pub returns-in-None : goal.returns-in-None
returns-in-None g c =
    let name_of = g.T.Named.name_of in
    let xs = c.self.inside.list.items in
    let q : List ℕ = c.args.name.now in
    let at : place_of (map name_of xs) q ≡ None = sym (c.self.invariant.1 q) ∙ sym c.in-None.ensures.value in
    rw (← c.self.view_is) (ap (option_and_then (λ k. slice_get xs k)) (sym at) ∙ found_at_place name_of xs q)

pub returns-in-Some : goal.returns-in-Some
returns-in-Some g c =
    let name_of = g.T.Named.name_of in
    let xs = c.self.inside.list.items in
    let q : List ℕ = c.args.name.now in
    let at : place_of (map name_of xs) q ≡ Some c.in-Some.place.now = sym (c.self.invariant.1 q) ∙ sym c.in-Some.ensures.value in
    rw (c.item_at.ensures, c.as_slice.ensures.value, ← c.self.view_is) (ap (option_and_then (λ k. slice_get xs k)) (sym at) ∙ found_at_place name_of xs q)
