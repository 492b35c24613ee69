-- What holds for one mount.
use Rattle.std.specs.Prelude.{ℕ, List, find}
use Rattle.std.specs.Option.{option_map_or}
use Rattle.std.specs.Str.{bytes_eq}
use Rattle.radio_settings_values.specs.declared.settings.MountOptions.{MountOptions}
use Rattle.radio_settings_values.specs.declared.settings.Settings.{Settings}

-- what the mount's table sets, or all defaults where it has none
-- rule: Reading settings
abbrev pub options_for : Settings → List ℕ → MountOptions
options_for settings name =
    option_map_or (λ mount. mount.options) (find (λ mount. bytes_eq mount.name name) settings.mounts) settings.other_mounts
