-- Which key a fault of settings is of.
use Rattle.std.specs.Prelude.{Option, None, Some}
use Rattle.radio_keys.specs.declared.key.Key.{Key}
use Rattle.radio_keys.specs.declared.fault.SettingsFault.{SettingsFault}
use Rattle.radio_keys.specs.declared.fault.SettingsFault.TheVariants.{Missing, WrongKind, OutOfRange, BadName}

-- the key, unless the fault is of none: that a text is not TOML, two mounts have one name, or memory was refused
abbrev pub key_of : SettingsFault → Option Key
key_of (Missing key) = Some key
key_of (WrongKind key) = Some key
key_of (OutOfRange key) = Some key
key_of (BadName key) = Some key
key_of fault = None
