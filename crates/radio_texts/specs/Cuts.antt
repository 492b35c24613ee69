-- Texts cut at a byte.
use Rattle.std.specs.Prelude.{ℕ, ◌==◌, nat_eq, List, [], ◌∷◌, drop, Option, None, Some, if◌then◌else◌}
use Rattle.std.specs.Option.{option_map}
use Rattle.std.specs.List.{starts_with}

-- a byte more before what stands in front
abbrev pub onto_front : ℕ → Option (List ℕ × List ℕ) → Option (List ℕ × List ℕ)
onto_front b o = option_map (λ parts. (b ∷ parts.0, parts.1)) o

-- what is before and after the first byte c, if there is one
abbrev pub cut : ℕ → List ℕ → Option (List ℕ × List ℕ)
cut c [] = None
cut c (b ∷ text) = if b == c then Some ([], text) else onto_front b (cut c text)

-- what is before and after the first two adjacent bytes c, if there are such
abbrev pub cut_at_two : ℕ → List ℕ → Option (List ℕ × List ℕ)
cut_at_two c [] = None
cut_at_two c (b ∷ text) =
    if starts_with nat_eq (b ∷ text) (c ∷ c ∷ []) then Some ([], drop 2 (b ∷ text)) else onto_front b (cut_at_two c text)

-- a byte more before the first field
abbrev pub onto_first : ℕ → List (List ℕ) → List (List ℕ)
onto_first b [] = (b ∷ []) ∷ []
onto_first b (field ∷ fields) = (b ∷ field) ∷ fields

-- the fields between all bytes c: one field more than there are such bytes
abbrev pub fields_at : ℕ → List ℕ → List (List ℕ)
fields_at c [] = [] ∷ []
fields_at c (b ∷ text) = if b == c then [] ∷ fields_at c text else onto_first b (fields_at c text)

-- the fields of a text that was cut, or not: the front, and the fields of what follows
abbrev pub fields_by : ℕ → List ℕ → Option (List ℕ × List ℕ) → List (List ℕ)
fields_by c text None = text ∷ []
fields_by c text (Some parts) = parts.0 ∷ fields_at c parts.1
