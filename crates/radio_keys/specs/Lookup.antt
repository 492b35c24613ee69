-- What a table holds at a key.
use Rattle.std.specs.Prelude.{ℕ, ℤ, pos, negsuc, Bool, List, [], ◌∷◌, Option, None, Some, unwrap_or}
use Rattle.std.specs.Option.{option_map, option_and_then}
use Rattle.toml.specs.Data.{Data, Items, no_items, item, Members, no_members, get_member, as_str, as_integer, as_bool, as_array, as_table}
use Rattle.radio_values.specs.Cleaning.{cleaned}
use Rattle.radio_values.specs.Limits.{max_field}
use Rattle.radio_keys.specs.declared.key.Key.{Key}
use Rattle.radio_keys.specs.Keys.{word}

-- the value at a key
unfoldable pub value_at : Key → Members → Option Data
value_at key table = get_member (word key) table

-- the text at a key
unfoldable pub text_at : Key → Members → Option (List ℕ)
text_at key table = option_and_then as_str (value_at key table)

unfoldable pub text_or : Key → Members → List ℕ → List ℕ
text_or key table default = unwrap_or (text_at key table) default

-- the text at a key, as heads show it
unfoldable pub field_at : Key → Members → Option (List ℕ)
field_at key table = option_map (cleaned max_field) (text_at key table)

unfoldable pub field_or_empty : Key → Members → List ℕ
field_or_empty key table = cleaned max_field (text_or key table [])

-- an integer as a natural number
abbrev pub natural : ℤ → Option ℕ
natural (pos n) = Some n
natural (negsuc n) = None

-- the number at a key
unfoldable pub number_at : Key → Members → Option ℕ
number_at key table = option_and_then natural (option_and_then as_integer (value_at key table))

unfoldable pub number_or : Key → Members → ℕ → ℕ
number_or key table default = unwrap_or (number_at key table) default

-- the flag at a key
unfoldable pub flag_or : Key → Members → Bool → Bool
flag_or key table default = unwrap_or (option_and_then as_bool (value_at key table)) default

-- the table of a name
unfoldable pub table_at : Key → Members → Option Members
table_at key document = option_and_then as_table (value_at key document)

-- the table of a name; the empty one, if there is none
unfoldable pub table_or_empty : Key → Members → Members
table_or_empty key document = unwrap_or (table_at key document) no_members

-- the tables of a list of values; none, where one of these is no table
abbrev pub tables_of : Items → Option (List Members)
tables_of no_items = Some []
tables_of (item d ds) = option_and_then (λ table. option_map (λ tables. table ∷ tables) (tables_of ds)) (as_table d)

-- the tables of a list, in their order
unfoldable pub list_at : Key → Members → Option (List Members)
list_at key document = option_and_then tables_of (option_and_then as_array (value_at key document))

-- the tables of a list; none, if there is no list
unfoldable pub tables_at : Key → Members → List Members
tables_at key document = unwrap_or (list_at key document) []
