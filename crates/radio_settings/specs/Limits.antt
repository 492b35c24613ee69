-- The table `[limits]`.
use Rattle.std.specs.Prelude.{Option, List, [], ◌∷◌}
use Rattle.toml.specs.Data.{Members}
use Rattle.radio_keys.specs.declared.fault.SettingsFault.{SettingsFault}
use Rattle.radio_keys.specs.declared.key.Key.TheVariants.{Clients, Sources, QueueSize, BurstSize, SourceTimeout, HeaderTimeout}
use Rattle.radio_keys.specs.Lookup.{number_or}
use Rattle.radio_keys.specs.Rows.{KeyRow, key_row, faults_in, first_fault, number, optional}
use Rattle.radio_settings_values.specs.declared.settings.LimitSettings.{LimitSettings}

abbrev pub limit_keys : List KeyRow
limit_keys =
    key_row Clients (number 1 1000000) optional
    ∷ key_row Sources (number 1 100000) optional
    ∷ key_row QueueSize (number 1 1073741824) optional
    ∷ key_row BurstSize (number 0 1073741824) optional
    ∷ key_row SourceTimeout (number 1 86400) optional
    ∷ key_row HeaderTimeout (number 1 86400) optional
    ∷ []

-- the first fault of its keys
unfoldable pub limits_fault : Members → Option SettingsFault
limits_fault table = first_fault (faults_in limit_keys table)

unfoldable pub limits_of : Members → LimitSettings
limits_of table = record {
  clients = number_or Clients table 100;
  sources = number_or Sources table 2;
  queue_size = number_or QueueSize table 524288;
  burst_size = number_or BurstSize table 65536;
  source_timeout = number_or SourceTimeout table 10;
  header_timeout = number_or HeaderTimeout table 15;
}
