-- What of the settings is doubtful.
use Rattle.std.specs.Prelude.{ℕ, Bool, false, ◌||◌, ◌==◌, ◌-◌, ◌/◌, ◌^◌, min, List, Option, None, Some, is_some, find, sum_by, codes, unwrap_or}
use Rattle.std.specs.Str.{bytes_eq}
use Rattle.radio_addr.specs.declared.address.Address.{Address}
use Rattle.radio_addr.specs.declared.address.Address.TheVariants.{V4, V6}
use Rattle.radio_settings_values.specs.declared.settings.MountSetting.{MountSetting}
use Rattle.radio_settings_values.specs.declared.settings.Settings.{Settings}

-- only this machine reaches it: IPv4 from 127.0.0.0 to 127.255.255.255, and `::1`
-- rule: Doubtful settings
abbrev pub is_loopback : Option Address → Bool
is_loopback None = false
is_loopback (Some (V4 n)) = n / 2 ^ 24 == 127
is_loopback (Some (V6 n)) = n == 1

-- a mount has a table, a relay feeds it, or there is a slave, which feeds what its master has
-- rule: Doubtful settings
abbrev pub is_set_mount : Settings → List ℕ → Bool
is_set_mount settings name =
    is_some (find (λ mount. bytes_eq mount.name name) settings.mounts)
    || is_some (find (λ relay. bytes_eq relay.local_mount name) settings.relays)
    || is_some settings.slave

-- a password of the example, which everybody knows
abbrev pub is_example : List ℕ → Bool
is_example password = bytes_eq password (codes "hackme") || bytes_eq password (codes "letmein")

-- how many listeners a mount may have; 0 for no limit
abbrev pub limit_of : MountSetting → ℕ
limit_of mount = unwrap_or mount.options.listeners.max_listeners 0

-- how many listeners the mounts may have together that have a limit; a sum that has reached 2^64 - 1 stays
abbrev pub limited_listeners : List MountSetting → ℕ
limited_listeners mounts = min (2 ^ 64 - 1) (sum_by limit_of mounts)
