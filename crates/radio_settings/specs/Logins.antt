-- A user, who has a default, and a password.
use Rattle.std.specs.Prelude.{ℕ, Option, List, [], ◌∷◌}
use Rattle.toml.specs.Data.{Members}
use Rattle.radio_keys.specs.declared.fault.SettingsFault.{SettingsFault}
use Rattle.radio_keys.specs.declared.key.Key.{Key}
use Rattle.radio_keys.specs.Lookup.{text_or}
use Rattle.radio_keys.specs.Rows.{KeyRow, key_row, faults_in, first_fault, text, required, optional}
use Rattle.radio_settings_values.specs.declared.settings.Login.{Login}

abbrev pub login_keys : Key → Key → List KeyRow
login_keys username password = key_row username text optional ∷ key_row password text required ∷ []

-- the first fault of the two keys
unfoldable pub login_fault : Key → Key → Members → Option SettingsFault
login_fault username password table = first_fault (faults_in (login_keys username password) table)

unfoldable pub login_of : Key → Key → List ℕ → Members → Login
login_of username password default table =
    record { username = text_or username table default; password = text_or password table [] }
