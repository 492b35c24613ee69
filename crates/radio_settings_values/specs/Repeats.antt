-- Repeated names in a list.
use Rattle.std.specs.Prelude.{ℕ, Bool, if◌then◌else◌, List, [], ◌∷◌, ◌++◌, Option, None, Some}
use Rattle.std.specs.List.{list_any}
use Rattle.std.specs.Str.{bytes_eq}

-- the name is among the names
abbrev pub is_among : List (List ℕ) → List ℕ → Bool
is_among names name = list_any (bytes_eq name) names

-- the first of some names that is among those before it, of which some were passed
abbrev pub first_repeat_after : List (List ℕ) → List (List ℕ) → Option (List ℕ)
first_repeat_after passed [] = None
first_repeat_after passed (name ∷ names) =
    if is_among passed name then Some name else first_repeat_after (passed ++ name ∷ []) names

-- the first name that is among those before it
unfoldable pub first_repeat : List (List ℕ) → Option (List ℕ)
first_repeat names = first_repeat_after [] names
