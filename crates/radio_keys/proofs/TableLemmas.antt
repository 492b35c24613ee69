-- Lists of tables.
use Rattle.std.proofs.Common.{◌≡◌, ℕ, ◌+◌, ◌<◌, ◌≤◌, List, [], ◌∷◌, ◌++◌, length, drop, get_or, Option, None, Some, refl, ap, sym, ◌∙◌, append_assoc}
use Rattle.std.proofs.lemmas.List.{drop_all, append-nil}
use Rattle.std.specs.Option.{option_map, option_and_then}
use Rattle.toml.specs.Data.{Members, as_table}
use Rattle.toml.specs.View.{view, items_view}
use Rattle.toml.specs.declared.value.Value.{Value}
use Rattle.toml.proofs.Views.{items_view-drop}
use Rattle.radio_keys.specs.Lookup.{tables_of}

abbrev pub with_front : List Members → Option (List Members) → Option (List Members)
with_front front rest = option_map (λ tables. front ++ tables) rest

-- the first i values are these tables
abbrev pub AreRead : List Value → ℕ → List Members → Type 0
AreRead values i tables = tables_of (items_view values) ≡ with_front tables (tables_of (items_view (drop i values)))

nothing_in_front : (rest : Option (List Members)) → rest ≡ with_front [] rest
nothing_in_front None = refl
nothing_in_front (Some tables) = refl

one_in_front : (front : List Members) (t : Members) (rest : Option (List Members))
    → with_front front (option_map (λ tables. t ∷ tables) rest) ≡ with_front (front ++ t ∷ []) rest
one_in_front front t None = refl
one_in_front front t (Some tables) = ap Some (sym (append_assoc front (t ∷ []) tables))

pub none_read : (values : List Value) → AreRead values 0 []
none_read values = nothing_in_front (tables_of (items_view values))

-- the tables from the value at i on, by what that value is
abbrev pub tables_from : List Value → ℕ → Option Members → Option (List Members)
tables_from values i found = option_and_then (λ table. option_map (λ tables. table ∷ tables) (tables_of (items_view (drop (i + 1) values)))) found

at_value : (values : List Value) (i : ℕ) (v : Value) → i < length values → v ≡ get_or values i v
    → tables_of (items_view (drop i values)) ≡ tables_from values i (as_table (view v))
at_value values i v low is = ap tables_of (items_view-drop values i v low) ∙ ap (λ w. tables_from values i (as_table (view w))) (sym is)

pub read_more : (values : List Value) (i : ℕ) (v : Value) (t : Members) (tables : List Members) → i < length values → v ≡ get_or values i v
    → as_table (view v) ≡ Some t → AreRead values i tables → AreRead values (i + 1) (tables ++ t ∷ [])
read_more values i v t tables low is found so_far =
    so_far ∙ ap (with_front tables) (at_value values i v low is ∙ ap (tables_from values i) found) ∙ one_in_front tables t _

-- a value that is no table
pub none_here : (values : List Value) (i : ℕ) (v : Value) (tables : List Members) → i < length values → v ≡ get_or values i v
    → as_table (view v) ≡ None → AreRead values i tables → tables_of (items_view values) ≡ None
none_here values i v tables low is found so_far =
    so_far ∙ ap (with_front tables) (at_value values i v low is ∙ ap (tables_from values i) found)

pub all_read : (values : List Value) (i : ℕ) (tables : List Members) → length values ≤ i → AreRead values i tables → tables_of (items_view values) ≡ Some tables
all_read values i tables past so_far =
    so_far ∙ ap (λ rest. with_front tables (tables_of (items_view rest))) (drop_all i values past) ∙ ap Some (append-nil tables)
