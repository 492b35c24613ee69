-- The pairs that open commands.
use Rattle.std.specs.Prelude.{ℕ, Bool, false, List, Option, None, Some}
use Rattle.std.specs.Option.{option_map_or}
use Rattle.radio_creds.specs.Credentials.{Credentials}
use Rattle.radio_settings_values.specs.declared.settings.Login.{Login}
use Rattle.radio_settings_values.specs.declared.settings.RelayAccess.{RelayAccess}
use Rattle.radio_settings_values.specs.declared.settings.Settings.{Settings}
use Rattle.radio_access.specs.SourcePair.{is_login, is_source_pair, is_user_with}

-- a pair was sent, and it is the login
abbrev pub is_login_sent : Login → Option Credentials → Bool
is_login_sent login None = false
is_login_sent login (Some pair) = is_login login pair

-- a pair was sent, and it is the user and the password of the admin
-- rule: Admin password; Who may command
abbrev pub is_admin_pair : Settings → Option Credentials → Bool
is_admin_pair settings pair = is_login_sent settings.access.admin pair

-- a pair was sent, and it is that of the source of the mount that was named; where none was, that of a mount without settings
-- rule: Who may command
abbrev pub is_named_source_pair : Settings → Option (List ℕ) → Option Credentials → Bool
is_named_source_pair settings (Some mount) pair = is_source_pair settings mount pair
is_named_source_pair settings None pair = is_login_sent settings.other_mounts.source pair

-- the pair is that of the relays; where they have no password, none is
abbrev pub is_relays : RelayAccess → Credentials → Bool
is_relays relays pair = option_map_or (λ password. is_user_with relays.username password pair) relays.password false

-- a pair was sent, and it is that of the relays
-- rule: Relay password; List of streams
abbrev pub is_relay_pair : Settings → Option Credentials → Bool
is_relay_pair settings pair = option_map_or (is_relays settings.access.relays) pair false
