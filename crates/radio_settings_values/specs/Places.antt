-- The places of names in a list, found by name.
use Rattle.std.specs.Prelude.{◌≡◌, ℕ, List, Option}
use Rattle.std.specs.BTreeMap.{BTreeMap, get}
use Rattle.std.specs.Cmp.Lexicographic.{slice_cmp}
use Rattle.std.specs.List.{position_from}
use Rattle.std.specs.Ordering.{nat_cmp}
use Rattle.std.specs.Str.{bytes_eq}

-- the place of the first name that is q
abbrev pub place_of : List (List ℕ) → List ℕ → Option ℕ
place_of names q = position_from (λ name. bytes_eq name q) 0 names

-- the map has the place of each name, and no other
abbrev pub HasPlaces : BTreeMap (List ℕ) ℕ → List (List ℕ) → Type 0
HasPlaces places names = (q : List ℕ) → get (slice_cmp nat_cmp) places q ≡ place_of names q
