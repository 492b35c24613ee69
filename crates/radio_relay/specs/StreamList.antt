-- Lists of a master's streams, and sets of names.
use Rattle.std.specs.Prelude.{ℕ, List, [], ◌∷◌, map, if◌then◌else◌}
use Rattle.std.specs.Cmp.Lexicographic.{slice_cmp}
use Rattle.std.specs.Ordering.{nat_cmp}
use Rattle.std.specs.declared.cmp.Ordering.{Ordering}
use Rattle.std.specs.BTreeSet.{insert_key}
use Rattle.radio_values.specs.MountName.{is_mount_name}
use Rattle.radio_texts.specs.Cuts.{fields_at}
use Rattle.radio_texts.specs.Lines.{without_return}

-- names are ordered by their bytes
abbrev pub name_order : List ℕ → List ℕ → Ordering
name_order = slice_cmp nat_cmp

-- names in order, with one more at its place, unless it is among them
abbrev pub with_one : List (List ℕ) → List ℕ → List (List ℕ)
with_one names name = insert_key name_order names name

-- the same if a text is a name
abbrev pub with_name : List (List ℕ) → List ℕ → List (List ℕ)
with_name names text = if is_mount_name text then with_one names text else names

abbrev pub with_names : List (List ℕ) → List (List ℕ) → List (List ℕ)
with_names names [] = names
with_names names (text ∷ texts) = with_names (with_name names text) texts

-- what is before each LF and after the last, without one CR at its end
abbrev pub stream_list_lines : List ℕ → List (List ℕ)
stream_list_lines text = map without_return (fields_at 10 text)

-- the lines that are names of mounts, in order, each once
unfoldable pub names_listed : List ℕ → List (List ℕ)
names_listed text = with_names [] (stream_list_lines text)
