-- The tables `[[relay]]`.
use Rattle.std.specs.Prelude.{ℕ, false, List, [], ◌∷◌, ◌++◌, Option, None, Some, map}
use Rattle.toml.specs.Data.{Members}
use Rattle.radio_keys.specs.declared.fault.SettingsFault.{SettingsFault}
use Rattle.radio_keys.specs.declared.key.Key.TheVariants.{Relay, Server, Port, Mount, LocalMount, Username, Password, OnDemand}
use Rattle.radio_keys.specs.Lookup.{text_at, text_or, flag_or, tables_at}
use Rattle.radio_keys.specs.Rows.{KeyRow, key_row, faults_in, first_fault, text, flag, mount_name, required, optional, required_with}
use Rattle.radio_settings_values.specs.declared.settings.Login.{Login}
use Rattle.radio_settings_values.specs.declared.settings.RelaySetting.{RelaySetting}
use Rattle.radio_settings.specs.Masters.{master_keys, master_of}

-- both a user and a password, or neither
-- rule: Pair of a relay
abbrev pub pair_keys : List KeyRow
pair_keys = key_row Username text (required_with Password) ∷ key_row Password text (required_with Username) ∷ []

-- the mount to pull, and the mount that it feeds
abbrev pub relay_mount_keys : List KeyRow
relay_mount_keys = key_row Mount mount_name required ∷ key_row LocalMount mount_name optional ∷ []

abbrev pub relay_keys : List KeyRow
relay_keys = master_keys Server Port ++ (relay_mount_keys ++ (pair_keys ++ key_row OnDemand flag optional ∷ []))

abbrev pub login_from : Option (List ℕ) → Option (List ℕ) → Option Login
login_from (Some username) (Some password) = Some (record { username = username; password = password })
login_from _ _ = None

-- the first fault of the two mounts
unfoldable pub relay_mounts_fault : Members → Option SettingsFault
relay_mounts_fault table = first_fault (faults_in relay_mount_keys table)

abbrev pub pulled_mount_of : Members → List ℕ
pulled_mount_of table = text_or Mount table []

-- by default the mount that it pulls
abbrev pub local_mount_of : Members → List ℕ
local_mount_of table = text_or LocalMount table (pulled_mount_of table)

-- the first fault of the two keys
unfoldable pub pair_fault : Members → Option SettingsFault
pair_fault table = first_fault (faults_in pair_keys table)

unfoldable pub relay_login : Members → Option Login
relay_login table = login_from (text_at Username table) (text_at Password table)

-- the first fault of the keys of one
unfoldable pub relay_fault : Members → Option SettingsFault
relay_fault table = first_fault (faults_in relay_keys table)

unfoldable pub relay_setting_of : Members → RelaySetting
relay_setting_of table = record {
  master = master_of Server Port table;
  mount = pulled_mount_of table;
  local_mount = local_mount_of table;
  login = relay_login table;
  on_demand = flag_or OnDemand table false;
}

abbrev pub relays_of : Members → List RelaySetting
relays_of document = map relay_setting_of (tables_at Relay document)
