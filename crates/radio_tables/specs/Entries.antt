-- what a table keeps of its inside: a map whose entries are rows under their keys
use Rattle.std.specs.Prelude.{◌≡◌, List}
use Rattle.std.specs.declared.cmp.Ordering.{Ordering}
use Rattle.std.specs.declared.cmp.Ordering.TheVariants.{Equal}
use Rattle.std.specs.List.Sorted.{IsStrictlySortedBy}
use Rattle.std.specs.Map.{keys_of}
use Rattle.radio_tables.specs.Lists.{Each}

-- each row is under a key equal to its own
abbrev pub AreOwn : {K X : Type 0} → (K → K → Ordering) → (X → K) → List (K × X) → Type 0
AreOwn compare key entries = Each (λ e. compare (key e.1) e.0 ≡ Equal) entries

-- the entries are such rows, in rising order of the keys
pub record AreRows {K X : Type 0} (compare : K → K → Ordering) (key : X → K) (entries : List (K × X)) : Type 0 where
  pub own : AreOwn compare key entries
  pub rising : IsStrictlySortedBy compare (keys_of entries)
