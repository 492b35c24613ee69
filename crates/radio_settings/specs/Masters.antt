-- A server that streams are pulled from.
use Rattle.std.specs.Prelude.{Option, List, [], ◌∷◌}
use Rattle.toml.specs.Data.{Members}
use Rattle.radio_keys.specs.declared.fault.SettingsFault.{SettingsFault}
use Rattle.radio_keys.specs.declared.key.Key.{Key}
use Rattle.radio_keys.specs.Lookup.{field_or_empty, number_or}
use Rattle.radio_keys.specs.Rows.{KeyRow, key_row, faults_in, first_fault, text, number, required, optional}
use Rattle.radio_settings_values.specs.declared.settings.Master.{Master}

abbrev pub master_keys : Key → Key → List KeyRow
master_keys server port = key_row server text required ∷ key_row port (number 1 65535) optional ∷ []

-- the first fault of the two keys
unfoldable pub master_fault : Key → Key → Members → Option SettingsFault
master_fault server port table = first_fault (faults_in (master_keys server port) table)

unfoldable pub master_of : Key → Key → Members → Master
master_of server port table = record { server = field_or_empty server table; port = number_or port table 8000 }
