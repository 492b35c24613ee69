-- Rows of the table of settings, and the faults that they find.
use Rattle.std.specs.Prelude.{ℕ, Bool, true, false, not, ◌&&◌, nat_le, if◌then◌else◌, List, [], ◌∷◌, Option, None, Some, is_some, map}
use Rattle.std.specs.Option.{option_or}
use Rattle.toml.specs.Data.{Data, Members, as_str, as_integer, as_bool, as_table}
use Rattle.radio_values.specs.AllowedOrigin.{is_allowed_origin}
use Rattle.radio_values.specs.MountName.{is_mount_name}
use Rattle.radio_keys.specs.declared.key.Key.{Key}
use Rattle.radio_keys.specs.declared.fault.SettingsFault.{SettingsFault}
use Rattle.radio_keys.specs.declared.fault.SettingsFault.TheVariants.{Missing, WrongKind, OutOfRange, BadName}
use Rattle.radio_keys.specs.Lookup.{value_at, natural, list_at}

-- what a value must be
pub data Kind : Type 0 where
  text : Kind
  -- from the one number to the other, both with it
  number : ℕ → ℕ → Kind
  flag : Kind
  mount_name : Kind
  -- the value of `Access-Control-Allow-Origin`
  origin : Kind

-- whether a key must be there
pub data Need : Type 0 where
  required : Need
  optional : Need
  -- where the other key is there
  required_with : Key → Need

-- a row of the table: a key, the kind of its value, and whether it must be there
pub record KeyRow : Type 0 where
  pub key : Key
  pub kind : Kind
  pub need : Need

abbrev pub key_row : Key → Kind → Need → KeyRow
key_row key kind need = record { key = key; kind = kind; need = need }

-- a fault, unless all is well
abbrev pub unless : Bool → SettingsFault → Option SettingsFault
unless is_well fault = if is_well then None else Some fault

-- the integer is a number of the range
abbrev pub is_between : ℕ → ℕ → Option ℕ → Bool
is_between low high None = false
is_between low high (Some n) = nat_le low n && nat_le n high

-- the fault of a value that is read as A: it is no A, or the A is not as it must be
abbrev pub fault_as : {A : Type 0} → Key → Option A → (A → Option SettingsFault) → Option SettingsFault
fault_as key None fault = Some (WrongKind key)
fault_as key (Some a) fault = fault a

-- the fault of the value at a key
abbrev pub value_fault : Kind → Key → Data → Option SettingsFault
value_fault text key d = fault_as key (as_str d) (λ _. None)
value_fault (number low high) key d = fault_as key (as_integer d) (λ z. unless (is_between low high (natural z)) (OutOfRange key))
value_fault flag key d = fault_as key (as_bool d) (λ _. None)
value_fault mount_name key d = fault_as key (as_str d) (λ name. unless (is_mount_name name) (BadName key))
value_fault origin key d = fault_as key (as_str d) (λ text. unless (is_allowed_origin text) (OutOfRange key))

-- the key must be there
abbrev pub is_needed : Need → Members → Bool
is_needed required table = true
is_needed optional table = false
is_needed (required_with other) table = is_some (value_at other table)

-- the fault of a key: that it is absent, or that of its value
abbrev pub fault_with : Key → Bool → (Data → Option SettingsFault) → Option Data → Option SettingsFault
fault_with key is_needed fault None = unless (not is_needed) (Missing key)
fault_with key is_needed fault (Some d) = fault d

-- the fault of a row in a table, if it has one
unfoldable pub row_fault : KeyRow → Members → Option SettingsFault
row_fault r table = fault_with r.key (is_needed r.need table) (value_fault r.kind r.key) (value_at r.key table)

-- the faults of rows in a table, row by row
abbrev pub faults_in : List KeyRow → Members → List (Option SettingsFault)
faults_in rows table = map (λ r. row_fault r table) rows

-- the fault of the name of a table
unfoldable pub table_fault : Key → Members → Option SettingsFault
table_fault key document = fault_with key false (λ d. fault_as key (as_table d) (λ _. None)) (value_at key document)

-- the fault of the name of a list of tables
unfoldable pub list_fault : Key → Members → Option SettingsFault
list_fault key document = fault_with key false (λ _. unless (is_some (list_at key document)) (WrongKind key)) (value_at key document)

-- the first fault of some rows
abbrev pub first_fault : List (Option SettingsFault) → Option SettingsFault
first_fault [] = None
first_fault (fault ∷ faults) = option_or fault (first_fault faults)
