-- The parts of a document as they are read, one after the other: their first faults, and what they set.
use Rattle.std.specs.Prelude.{List, [], ◌∷◌, Option}
use Rattle.std.specs.Option.{option_map}
use Rattle.toml.specs.Data.{Members, no_members}
use Rattle.radio_keys.specs.declared.key.Key.TheVariants.{Listen, Limits, Slave, Web}
use Rattle.radio_keys.specs.declared.fault.SettingsFault.{SettingsFault}
use Rattle.radio_keys.specs.Lookup.{table_at, table_or_empty}
use Rattle.radio_keys.specs.Rows.{first_fault}
use Rattle.radio_settings.specs.declared.document.Basics.{Basics}
use Rattle.radio_settings.specs.declared.document.NamedStreams.{NamedStreams}
use Rattle.radio_settings.specs.declared.document.StationTables.{StationTables}
use Rattle.radio_settings.specs.declared.document.Streams.{Streams}
use Rattle.radio_settings_values.specs.declared.settings.AccessSettings.{AccessSettings}
use Rattle.radio_settings_values.specs.declared.settings.LimitSettings.{LimitSettings}
use Rattle.radio_settings_values.specs.declared.settings.MountSetting.{MountSetting}
use Rattle.radio_settings_values.specs.declared.settings.RelaySetting.{RelaySetting}
use Rattle.radio_settings_values.specs.declared.settings.Settings.{Settings}
use Rattle.radio_settings_values.specs.declared.settings.SlaveSetting.{SlaveSetting}
use Rattle.radio_settings.specs.Access.{access_fault, access_of}
use Rattle.radio_settings.specs.Document.{limits_faults, listen_faults, local_mounts, mount_names, mounts_faults, relays_faults, repeat_fault, slave_faults, web_faults}
use Rattle.radio_settings.specs.Limits.{limits_of}
use Rattle.radio_settings.specs.Listen.{listen_of}
use Rattle.radio_settings.specs.Mounts.{mounts_of, options_of}
use Rattle.radio_settings.specs.Relays.{relays_of}
use Rattle.radio_settings.specs.Slave.{slave_of}
use Rattle.radio_settings.specs.Web.{web_of}
use Rattle.radio_settings.specs.WebNames.{web_names_fault}

-- the first fault of a table, and of its name
unfoldable pub listen_table_fault : Members → Option SettingsFault
listen_table_fault document = first_fault (listen_faults document)

unfoldable pub limits_table_fault : Members → Option SettingsFault
limits_table_fault document = first_fault (limits_faults document)

unfoldable pub web_table_fault : Members → Option SettingsFault
web_table_fault document = first_fault (web_faults document)

-- `[listen]`, `[limits]` and `[web]`
unfoldable pub station_fault : Members → Option SettingsFault
station_fault document = first_fault (listen_table_fault document ∷ limits_table_fault document ∷ web_table_fault document ∷ [])

abbrev pub station_of : Members → StationTables
station_of document = record {
  listen = listen_of (table_or_empty Listen document);
  limits = limits_of (table_or_empty Limits document);
  web = web_of (table_or_empty Web document);
}

-- the keys above all tables, and these tables
unfoldable pub basics_fault : Members → Option SettingsFault
basics_fault document = first_fault (access_fault document ∷ station_fault document ∷ [])

abbrev pub basics_of : Members → Basics
basics_of document = record { access = access_of document; station = station_of document }

-- the first fault of a list of tables, and of a table some keys of which must be there
unfoldable pub mounts_fault : Members → Option SettingsFault
mounts_fault document = first_fault (mounts_faults document)

unfoldable pub relays_fault : Members → Option SettingsFault
relays_fault document = first_fault (relays_faults document)

unfoldable pub optional_slave_fault : Members → Option SettingsFault
optional_slave_fault document = first_fault (slave_faults document)

-- the tables of streams
unfoldable pub lists_fault : Members → Option SettingsFault
lists_fault document = first_fault (mounts_fault document ∷ relays_fault document ∷ optional_slave_fault document ∷ [])

-- what they set, in the order of the text
abbrev pub listed_streams : List MountSetting → List RelaySetting → Option SlaveSetting → NamedStreams
listed_streams mounts relays slave = record { mounts = mounts; relays = relays; slave = slave }

abbrev pub listed_in : AccessSettings → LimitSettings → Members → NamedStreams
listed_in access limits document =
    listed_streams (mounts_of access limits document) (relays_of document) (option_map slave_of (table_at Slave document))

-- a repeated name among them
unfoldable pub apart_fault : List MountSetting → List RelaySetting → Option SettingsFault
apart_fault mounts relays = first_fault (repeat_fault (mount_names mounts) ∷ repeat_fault (local_mounts relays) ∷ [])

-- the tables of streams, and then the repeated names
unfoldable pub named_fault : AccessSettings → LimitSettings → Members → Option SettingsFault
named_fault access limits document =
    first_fault (lists_fault document ∷ apart_fault (mounts_of access limits document) (relays_of document) ∷ [])

-- and then the names that are paths of the web site
unfoldable pub streams_fault : Basics → Members → Option SettingsFault
streams_fault basics document =
    first_fault (named_fault basics.access basics.station.limits document
    ∷ web_names_fault basics.station.web (mounts_of basics.access basics.station.limits document) (relays_of document)
    ∷ [])

abbrev pub streams_of : Basics → Members → Streams
streams_of basics document = record {
  named = listed_in basics.access basics.station.limits document;
  other_mounts = options_of basics.access basics.station.limits no_members;
}

abbrev pub settings_with : Basics → Streams → Settings
settings_with basics streams = record {
  access = basics.access;
  listen = basics.station.listen;
  limits = basics.station.limits;
  web = basics.station.web;
  mounts = streams.named.mounts;
  other_mounts = streams.other_mounts;
  relays = streams.named.relays;
  slave = streams.named.slave;
}

-- the first fault of a document, by the first faults of its parts
abbrev pub fault_by_parts : Members → Option SettingsFault
fault_by_parts document =
    first_fault (basics_fault document ∷ streams_fault (basics_of document) document ∷ [])
