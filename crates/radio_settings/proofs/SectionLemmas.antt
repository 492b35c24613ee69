-- Keys of tables by their names.
use Rattle.std.proofs.Common.{◌≡◌, ℕ, Bool, ◌||◌, List, [], ◌∷◌, map, refl, ap}
use Rattle.std.specs.List.{list_any}
use Rattle.std.specs.Str.{bytes_eq}
use Rattle.radio_keys.specs.declared.key.Key.{Key}
use Rattle.radio_keys.specs.Keys.{word}
use Rattle.radio_settings.specs.declared.section.ValueKind.{ValueKind}
use Rattle.radio_settings.specs.Sections.{as_named, has_key, is_key_named}

-- a key of the list has the name if one of those that are named so does
pub any_named : (keys : List (Key × ValueKind)) (name : List ℕ) → list_any (is_key_named name) keys ≡ has_key (map as_named keys) name
any_named [] name = refl
any_named (key ∷ keys) name = ap (λ (b : Bool). bytes_eq (word key.0) name || b) (any_named keys name)
