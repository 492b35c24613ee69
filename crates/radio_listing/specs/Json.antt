-- The parts of JSON that listings are made of.
use Rattle.std.specs.Prelude.{ℕ, List, [], ◌∷◌}
use Rattle.std.specs.Str.Lossy.{utf8_lossy}
use Rattle.serde_json.specs.Data.{Data, number, string, array, object, unsigned, Members, no_members, member}
use Rattle.serde_json.specs.View.{items_of}

-- bytes as a text, with U+FFFD for what is not UTF-8
abbrev pub text : List ℕ → Data
text bytes = string (utf8_lossy bytes)

-- a whole number
abbrev pub count : ℕ → Data
count n = number (unsigned n)

-- the values, one after another
abbrev pub list : List Data → Data
list values = array (items_of values)

abbrev pub members : List (List ℕ × Data) → Members
members [] = no_members
members (m ∷ ms) = member m.0 m.1 (members ms)

-- the members, in this order
abbrev pub fields : List (List ℕ × Data) → Data
fields ms = object (members ms)
