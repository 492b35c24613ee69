-- The table `[listen]`.
use Rattle.std.specs.Prelude.{◌≡◌, ℕ, Option, Some, List, [], ◌∷◌, ◌++◌, codes}
use Rattle.std.specs.Option.{option_and_then}
use Rattle.toml.specs.Data.{Members}
use Rattle.toml.specs.Parse.{parse_document}
use Rattle.radio_keys.specs.declared.fault.SettingsFault.{SettingsFault}
use Rattle.radio_keys.specs.declared.key.Key.TheVariants.{Address, Port, Workers, ProxyFrom, Listen}
use Rattle.radio_keys.specs.Lookup.{table_at, text_at, text_or, number_or}
use Rattle.radio_keys.specs.Rows.{KeyRow, key_row, faults_in, first_fault, text, number, optional}
use Rattle.radio_settings_values.specs.declared.settings.ListenSettings.{ListenSettings}

-- where it listens, and by how many threads it serves
abbrev pub socket_keys : List KeyRow
socket_keys = key_row Address text optional ∷ key_row Port (number 0 65535) optional ∷ key_row Workers (number 1 64) optional ∷ []

-- whose connections name their clients
abbrev pub proxy_keys : List KeyRow
proxy_keys = key_row ProxyFrom text optional ∷ []

abbrev pub listen_keys : List KeyRow
listen_keys = socket_keys ++ proxy_keys

-- the first fault of its keys
unfoldable pub listen_fault : Members → Option SettingsFault
listen_fault table = first_fault (faults_in listen_keys table)

-- the path of the list of proxies, if there is one
abbrev pub proxies_of : Members → Option (List ℕ)
proxies_of table = text_at ProxyFrom table

-- what a document says of it
abbrev pub proxies_in : Members → Option (List ℕ)
proxies_in document = option_and_then proxies_of (table_at Listen document)

-- the path of a text in TOML says so
abbrev pub IsPathOfProxies : List ℕ → Option (List ℕ) → Type 0
IsPathOfProxies bytes path = (document : Members) × (parse_document bytes ≡ Some document) × (path ≡ proxies_in document)

unfoldable pub listen_of : Members → ListenSettings
listen_of table = record {
  address = text_or Address table (codes "127.0.0.1");
  port = number_or Port table 8000;
  workers = number_or Workers table 4;
}
