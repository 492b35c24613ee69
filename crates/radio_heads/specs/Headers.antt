-- The headers of a head, as names and values in their order.
use Rattle.std.specs.Prelude.{ℕ, Bool, List, Option, codes, map, find, option_map, bytes_eq}
use Rattle.std.specs.Char.{to_ascii_lowercase}

-- the names are the same, ASCII case disregarded
abbrev pub is_same_name : List ℕ → List ℕ → Bool
is_same_name a b = bytes_eq (map to_ascii_lowercase a) (map to_ascii_lowercase b)

-- the value of the first header of that name
-- rule: Grammar of heads; Two lengths
abbrev pub value_of : List ℕ → List (List ℕ × List ℕ) → Option (List ℕ)
value_of name headers = option_map (λ h. h.1) (find (λ h. is_same_name h.0 name) headers)

-- the media type of a stream whose head names none: the one that Icecast takes then
abbrev pub default_content_type : List ℕ
default_content_type = codes "audio/mpeg"
