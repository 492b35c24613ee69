-- The tables of the settings, and the keys of each.
use Rattle.std.specs.Prelude.{ℕ, Bool, List, [], ◌∷◌, ◌++◌, Option, codes, find, map}
use Rattle.std.specs.List.{list_any}
use Rattle.std.specs.Str.{bytes_eq}
use Rattle.radio_keys.specs.declared.key.Key.{Key}
use Rattle.radio_keys.specs.declared.key.Key.TheVariants as keys
use Rattle.radio_keys.specs.Keys.{word}
use Rattle.radio_keys.specs.Rows.{Kind, KeyRow, text, number, flag, mount_name, origin}
use Rattle.radio_settings.specs.declared.section.Section.{Section}
use Rattle.radio_settings.specs.declared.section.Section.TheVariants.{Top, Listen, Limits, Web, Mount, Relay, Slave}
use Rattle.radio_settings.specs.declared.section.ValueKind.{ValueKind}
use Rattle.radio_settings.specs.declared.section.ValueKind.TheVariants.{Text, Number, Flag, MountName, Origin, Table, Tables}
use Rattle.radio_settings.specs.Access.{access_keys}
use Rattle.radio_settings.specs.Listen.{listen_keys}
use Rattle.radio_settings.specs.Limits.{limit_keys}
use Rattle.radio_settings.specs.Web.{web_keys}
use Rattle.radio_settings.specs.Mounts.{mount_keys}
use Rattle.radio_settings.specs.Relays.{relay_keys}
use Rattle.radio_settings.specs.Slave.{slave_keys}

-- the name of a table in lines of the log
abbrev pub section_word : Section → List ℕ
section_word Top = codes "top"
section_word Listen = codes "listen"
section_word Limits = codes "limits"
section_word Web = codes "web"
section_word Mount = codes "mount"
section_word Relay = codes "relay"
section_word Slave = codes "slave"

-- what a key holds: a value of a kind, a table, or a list of tables
pub data Content : Type 0 where
  value : Kind → Content
  table : Content
  tables : Content

abbrev pub content_of_kind : ValueKind → Content
content_of_kind Text = value text
content_of_kind (Number low high) = value (number low high)
content_of_kind Flag = value flag
content_of_kind MountName = value mount_name
content_of_kind Origin = value origin
content_of_kind Table = table
content_of_kind Tables = tables

-- a key, and what it holds
abbrev pub NamedContent : Type 0
NamedContent = Key × Content

abbrev pub as_named : Key × ValueKind → NamedContent
as_named known = (known.0, content_of_kind known.1)

-- the rows by which a table is read
abbrev pub section_rows : Section → List KeyRow
section_rows Top = access_keys
section_rows Listen = listen_keys
section_rows Limits = limit_keys
section_rows Web = web_keys
section_rows Mount = mount_keys
section_rows Relay = relay_keys
section_rows Slave = slave_keys

-- the tables of a document are keys of it
abbrev pub tables_in : Section → List NamedContent
tables_in Top =
    (keys.Listen, table) ∷ (keys.Limits, table) ∷ (keys.Web, table) ∷ (keys.Mount, tables) ∷ (keys.Relay, tables) ∷ (keys.Slave, table) ∷ []
tables_in section = []

abbrev pub keys_of : Section → List NamedContent
keys_of section = map (λ (r : KeyRow). (r.key, value r.kind)) (section_rows section) ++ tables_in section

-- it is the key of this name
abbrev pub is_key_named : List ℕ → Key × ValueKind → Bool
is_key_named name known = bytes_eq (word known.0) name

-- one of the keys has the name
abbrev pub has_key : List NamedContent → List ℕ → Bool
has_key known name = list_any (λ (k : NamedContent). bytes_eq (word k.0) name) known

-- a key of this name is read in the table
-- rule: Unknown keys
abbrev pub knows : Section → List ℕ → Bool
knows section name = has_key (keys_of section) name

abbrev pub sections : List Section
sections = Top ∷ Listen ∷ Limits ∷ Web ∷ Mount ∷ Relay ∷ Slave ∷ []

-- the first table that knows a key of this name
-- rule: Unknown keys
abbrev pub home_of : List ℕ → Option Section
home_of name = find (λ section. knows section name) sections
