-- What a key that no table has may have been meant for.
use Rattle.std.specs.Prelude.{ℕ, Bool, List, length, nat_eq, nat_le, Option, None, Some, find}
use Rattle.std.specs.Option.{option_map, option_or}
use Rattle.std.specs.Str.{chars}
use Rattle.strsim.specs.Edits.{levenshtein_row}
use Rattle.radio_keys.specs.declared.key.Key.{Key as KeyOf}
use Rattle.radio_keys.specs.Keys.{word}
use Rattle.radio_settings.specs.declared.section.Section.{Section}
use Rattle.radio_settings.specs.Sections.{NamedContent, home_of, keys_of}
use Rattle.radio_review.specs.declared.meant.Meant.{Meant}
use Rattle.radio_review.specs.declared.meant.Meant.TheVariants.{At, Key, Nothing}

-- how many edits make the one text of the other (Levenshtein)
abbrev pub edits : List ℕ → List ℕ → ℕ
edits from to = levenshtein_row nat_eq (chars from) (chars to) (length (chars to))

-- at most so many edits make the key's name of it
abbrev pub is_near : ℕ → List ℕ → NamedContent → Bool
is_near most name known = nat_le (edits name (word known.0)) most

-- the first of some keys that is so near
abbrev pub near : ℕ → List ℕ → List NamedContent → Option KeyOf
near most name known = option_map (λ (k : NamedContent). k.0) (find (is_near most name) known)

-- the first that is one edit away, or else two
abbrev pub nearest : List NamedContent → List ℕ → Option KeyOf
nearest known name = option_or (near 1 name known) (near 2 name known)

abbrev pub meant_near : Option KeyOf → Meant
meant_near None = Nothing
meant_near (Some key) = Key key

-- a key of that name in another table goes before one of a like name in its own
abbrev pub meant_with : Option Section → Option KeyOf → Meant
meant_with (Some home) key = At home
meant_with None key = meant_near key

-- rule: Unknown keys
abbrev pub meant_by : Section → List ℕ → Meant
meant_by section name = meant_with (home_of name) (nearest (keys_of section) name)
