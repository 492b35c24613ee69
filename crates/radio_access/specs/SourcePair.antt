-- The pair that a mount's source sends.
use Rattle.std.specs.Prelude.{ℕ, Bool, false, ◌&&◌, List, Option, None, Some}
use Rattle.std.specs.Str.{bytes_eq}
use Rattle.radio_creds.specs.Credentials.{Credentials}
use Rattle.radio_settings_values.specs.declared.settings.Login.{Login}
use Rattle.radio_settings_values.specs.declared.settings.Settings.{Settings}
use Rattle.radio_settings_values.specs.Options.{options_for}

-- the pair is this user with this password
abbrev pub is_user_with : List ℕ → List ℕ → Credentials → Bool
is_user_with username password pair = bytes_eq username pair.user && bytes_eq password pair.password

abbrev pub is_login : Login → Credentials → Bool
is_login login pair = is_user_with login.username login.password pair

-- a pair was sent, and it is the user and the password of the mount's source
-- rule: Source password; Authorization
abbrev pub is_source_pair : Settings → List ℕ → Option Credentials → Bool
is_source_pair settings mount None = false
is_source_pair settings mount (Some pair) = is_login (options_for settings mount).source pair
