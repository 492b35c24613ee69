-- The faults of a whole text, in their order, and the settings of one that has none.
use Rattle.std.specs.Prelude.{ℕ, List, [], ◌∷◌, ◌++◌, Option, None, Some, Result, Ok, Err, map}
use Rattle.std.specs.List.{flat_map}
use Rattle.std.specs.Option.{option_map, option_map_or}
use Rattle.toml.specs.Data.{Members, no_members}
use Rattle.toml.specs.Parse.{parse_document}
use Rattle.radio_keys.specs.declared.key.Key.TheVariants.{Listen, Limits, Web, Mount, Relay, Slave}
use Rattle.radio_keys.specs.declared.fault.SettingsFault.{SettingsFault}
use Rattle.radio_keys.specs.declared.fault.SettingsFault.TheVariants.{NotToml, MountTwice}
use Rattle.radio_keys.specs.Lookup.{table_at, table_or_empty, tables_at}
use Rattle.radio_keys.specs.Rows.{faults_in, table_fault, list_fault, first_fault}
use Rattle.radio_settings_values.specs.declared.settings.MountSetting.{MountSetting}
use Rattle.radio_settings_values.specs.declared.settings.RelaySetting.{RelaySetting}
use Rattle.radio_settings_values.specs.declared.settings.Settings.{Settings}
use Rattle.radio_settings_values.specs.Repeats.{first_repeat}
use Rattle.radio_settings.specs.Access.{access_keys, access_of}
use Rattle.radio_settings.specs.Listen.{listen_keys, listen_of}
use Rattle.radio_settings.specs.Limits.{limit_keys, limits_of}
use Rattle.radio_settings.specs.Web.{web_keys, web_of}
use Rattle.radio_settings.specs.WebNames.{web_name_faults}
use Rattle.radio_settings.specs.Mounts.{mount_keys, options_of, mounts_of}
use Rattle.radio_settings.specs.Relays.{relay_keys, relays_of}
use Rattle.radio_settings.specs.Slave.{slave_keys, slave_of}

abbrev pub access_faults : Members → List (Option SettingsFault)
access_faults document = faults_in access_keys document

-- a table that may be absent: its name comes before its keys
abbrev pub listen_faults : Members → List (Option SettingsFault)
listen_faults document = table_fault Listen document ∷ faults_in listen_keys (table_or_empty Listen document)

abbrev pub limits_faults : Members → List (Option SettingsFault)
limits_faults document = table_fault Limits document ∷ faults_in limit_keys (table_or_empty Limits document)

abbrev pub web_faults : Members → List (Option SettingsFault)
web_faults document = table_fault Web document ∷ faults_in web_keys (table_or_empty Web document)

-- a list of tables: its name comes before the keys of all, and the tables follow one after the other
abbrev pub mounts_faults : Members → List (Option SettingsFault)
mounts_faults document = list_fault Mount document ∷ flat_map (faults_in mount_keys) (tables_at Mount document)

abbrev pub relays_faults : Members → List (Option SettingsFault)
relays_faults document = list_fault Relay document ∷ flat_map (faults_in relay_keys) (tables_at Relay document)

-- a table some keys of which must be there, if it is
abbrev pub slave_faults : Members → List (Option SettingsFault)
slave_faults document = table_fault Slave document ∷ option_map_or (faults_in slave_keys) (table_at Slave document) []

-- the names of the mounts, and the local mounts of the relays
abbrev pub mount_names : List MountSetting → List (List ℕ)
mount_names mounts = map (λ mount. mount.name) mounts

abbrev pub local_mounts : List RelaySetting → List (List ℕ)
local_mounts relays = map (λ relay. relay.local_mount) relays

abbrev pub repeat_fault : List (List ℕ) → Option SettingsFault
repeat_fault names = option_map (λ name. MountTwice name) (first_repeat names)

-- what a document sets, where it has no fault
abbrev pub settings_of : Members → Settings
settings_of document =
    let access = access_of document in
    let limits = limits_of (table_or_empty Limits document) in
    record {
      access = access;
      listen = listen_of (table_or_empty Listen document);
      limits = limits;
      web = web_of (table_or_empty Web document);
      mounts = mounts_of access limits document;
      other_mounts = options_of access limits no_members;
      relays = relays_of document;
      slave = option_map slave_of (table_at Slave document);
    }

abbrev pub repeat_faults : Members → List (Option SettingsFault)
repeat_faults document =
    repeat_fault (mount_names (settings_of document).mounts)
    ∷ repeat_fault (local_mounts (settings_of document).relays)
    ∷ []

-- names that are paths of the web site
abbrev pub name_faults : Members → List (Option SettingsFault)
name_faults document = web_name_faults (settings_of document).web (settings_of document).mounts (settings_of document).relays

-- every row of the table for a document, in its order, with the fault that it finds there
unfoldable pub document_faults : Members → List (Option SettingsFault)
document_faults document =
    access_faults document
    ++ (listen_faults document
    ++ (limits_faults document
    ++ (web_faults document
    ++ (mounts_faults document
    ++ (relays_faults document
    ++ (slave_faults document
    ++ (repeat_faults document
    ++ name_faults document)))))))

-- the settings, if there is no fault
abbrev pub settings_or_fault : Members → Option SettingsFault → Result Settings SettingsFault
settings_or_fault document None = Ok (settings_of document)
settings_or_fault document (Some fault) = Err fault

-- the reading of a document: its first fault, or what it sets
abbrev pub document_reading : Members → Result Settings SettingsFault
document_reading document = settings_or_fault document (first_fault (document_faults document))

-- the reading of a text
-- rule: Reading settings; Keys take effect
unfoldable pub reading_of : List ℕ → Result Settings SettingsFault
reading_of text = option_map_or document_reading (parse_document text) (Err NotToml)
