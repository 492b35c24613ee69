-- The table `[slave]`.
use Rattle.std.specs.Prelude.{Option, List, [], ◌∷◌, ◌++◌, codes}
use Rattle.toml.specs.Data.{Members}
use Rattle.radio_keys.specs.declared.fault.SettingsFault.{SettingsFault}
use Rattle.radio_keys.specs.declared.key.Key.TheVariants.{MasterServer, MasterPort, MasterUsername, MasterPassword, MasterUpdateInterval}
use Rattle.radio_keys.specs.Lookup.{number_or}
use Rattle.radio_keys.specs.Rows.{KeyRow, key_row, faults_in, first_fault, number, optional}
use Rattle.radio_settings_values.specs.declared.settings.SlaveSetting.{SlaveSetting}
use Rattle.radio_settings.specs.Logins.{login_keys, login_of}
use Rattle.radio_settings.specs.Masters.{master_keys, master_of}

abbrev pub slave_keys : List KeyRow
slave_keys =
    master_keys MasterServer MasterPort
    ++ (login_keys MasterUsername MasterPassword
    ++ key_row MasterUpdateInterval (number 1 86400) optional
    ∷ [])

-- the first fault of its keys
unfoldable pub slave_fault : Members → Option SettingsFault
slave_fault table = first_fault (faults_in slave_keys table)

unfoldable pub slave_of : Members → SlaveSetting
slave_of table = record {
  master = master_of MasterServer MasterPort table;
  login = login_of MasterUsername MasterPassword (codes "relay") table;
  master_update_interval = number_or MasterUpdateInterval table 120;
}
