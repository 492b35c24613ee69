-- Names that no mount can have, since they are paths of the web site.
use Rattle.std.specs.Prelude.{ℕ, Bool, true, not, List, [], ◌∷◌, Option}
use Rattle.std.specs.List.{list_all}
use Rattle.std.specs.Option.{option_map_or}
use Rattle.radio_keys.specs.declared.fault.SettingsFault.{SettingsFault}
use Rattle.radio_keys.specs.declared.fault.SettingsFault.TheVariants.{BadName}
use Rattle.radio_keys.specs.declared.key.Key.TheVariants.{MountName, FallbackMount, LocalMount}
use Rattle.radio_keys.specs.Rows.{first_fault, unless}
use Rattle.radio_settings_values.specs.declared.settings.MountSetting.{MountSetting}
use Rattle.radio_settings_values.specs.declared.settings.RelaySetting.{RelaySetting}
use Rattle.radio_settings_values.specs.declared.web.WebSettings.{WebSettings}
use Rattle.radio_settings_values.specs.Web.{is_web_path}

-- a mount can have the name
abbrev pub is_free : WebSettings → List ℕ → Bool
is_free web name = not (is_web_path web name)

-- the names of all the mounts, all their fallbacks, and all the mounts that relays feed
abbrev pub has_free_name : WebSettings → MountSetting → Bool
has_free_name web mount = is_free web mount.name

abbrev pub has_free_fallback : WebSettings → MountSetting → Bool
has_free_fallback web mount = option_map_or (is_free web) mount.options.listeners.fallback_mount true

abbrev pub feeds_free_mount : WebSettings → RelaySetting → Bool
feeds_free_mount web relay = is_free web relay.local_mount

-- the names of the mounts, then their fallbacks, then the local mounts of the relays
-- rule: Paths of the web site; Repeated names
abbrev pub web_name_faults : WebSettings → List MountSetting → List RelaySetting → List (Option SettingsFault)
web_name_faults web mounts relays =
    unless (list_all (has_free_name web) mounts) (BadName MountName)
    ∷ unless (list_all (has_free_fallback web) mounts) (BadName FallbackMount)
    ∷ unless (list_all (feeds_free_mount web) relays) (BadName LocalMount)
    ∷ []

unfoldable pub web_names_fault : WebSettings → List MountSetting → List RelaySetting → Option SettingsFault
web_names_fault web mounts relays = first_fault (web_name_faults web mounts relays)
