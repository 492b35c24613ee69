-- The faults of a settings file.
use Rattle.std.specs.Prelude.{◌≡◌, Result, Err}
use Rattle.radio_keys.specs.declared.fault.SettingsFault.{SettingsFault}
use Rattle.radio_keys.specs.declared.fault.SettingsFault.TheVariants.{NotToml as NoToml, OutOfMemory as NoMemory}
use Rattle.radio_settings_values.specs.declared.settings.Settings.{Settings as SettingsOf}
use Rattle.radio_startup.specs.declared.fault.FileFault.{FileFault}
use Rattle.radio_startup.specs.declared.fault.FileFault.TheVariants.{CannotRead, Line, NotToml, Settings, OutOfMemory}

-- a text is not TOML, or memory was refused
abbrev pub IsNotToml : FileFault → Type 0
IsNotToml (NotToml misreading) = Unit {0}
IsNotToml (Settings NoToml at) = Unit {0}
IsNotToml OutOfMemory = Unit {0}
IsNotToml fault = ⊥

-- a reading has this fault, or memory was refused
abbrev pub IsFaultOf : Result SettingsOf SettingsFault → FileFault → Type 0
IsFaultOf reading (CannotRead path error) = ⊥
IsFaultOf reading (Line path line) = ⊥
IsFaultOf reading (NotToml misreading) = reading ≡ Err NoToml
IsFaultOf reading (Settings NoMemory at) = Unit {0}
IsFaultOf reading (Settings fault at) = reading ≡ Err fault
IsFaultOf reading OutOfMemory = Unit {0}
