-- The keys above all tables.
use Rattle.std.specs.Prelude.{Option, List, [], ◌∷◌, ◌++◌, codes}
use Rattle.toml.specs.Data.{Members}
use Rattle.radio_keys.specs.declared.fault.SettingsFault.{SettingsFault}
use Rattle.radio_keys.specs.declared.key.Key.TheVariants.{SourcePassword, AdminUser, AdminPassword, RelayUser, RelayPassword, DenyIp, AllowIp}
use Rattle.radio_keys.specs.Lookup.{text_at, text_or}
use Rattle.radio_keys.specs.Rows.{KeyRow, key_row, faults_in, first_fault, text, required, optional}
use Rattle.radio_settings_values.specs.declared.settings.AccessSettings.{AccessSettings}
use Rattle.radio_settings_values.specs.declared.settings.AddressLists.{AddressLists}
use Rattle.radio_settings_values.specs.declared.settings.RelayAccess.{RelayAccess}
use Rattle.radio_settings.specs.Logins.{login_keys, login_of}

abbrev pub relay_access_keys : List KeyRow
relay_access_keys = key_row RelayUser text optional ∷ key_row RelayPassword text optional ∷ []

abbrev pub address_keys : List KeyRow
address_keys = key_row DenyIp text optional ∷ key_row AllowIp text optional ∷ []

abbrev pub access_keys : List KeyRow
access_keys = key_row SourcePassword text required ∷ (login_keys AdminUser AdminPassword ++ (relay_access_keys ++ address_keys))

-- the first fault of these keys, and of some of them
unfoldable pub access_fault : Members → Option SettingsFault
access_fault document = first_fault (faults_in access_keys document)

unfoldable pub relay_access_fault : Members → Option SettingsFault
relay_access_fault document = first_fault (faults_in relay_access_keys document)

unfoldable pub addresses_fault : Members → Option SettingsFault
addresses_fault document = first_fault (faults_in address_keys document)

unfoldable pub relay_access_of : Members → RelayAccess
relay_access_of document =
    record { username = text_or RelayUser document (codes "relay"); password = text_at RelayPassword document }

unfoldable pub addresses_of : Members → AddressLists
addresses_of document = record { deny_ip = text_at DenyIp document; allow_ip = text_at AllowIp document }

unfoldable pub access_of : Members → AccessSettings
access_of document = record {
  source_password = text_or SourcePassword document [];
  admin = login_of AdminUser AdminPassword (codes "admin") document;
  relays = relay_access_of document;
  addresses = addresses_of document;
}
