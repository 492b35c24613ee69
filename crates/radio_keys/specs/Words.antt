-- The words for a fault.
use Rattle.std.specs.Prelude.{ℕ, List, ◌++◌, codes}
use Rattle.radio_keys.specs.declared.fault.SettingsFault.{SettingsFault}
use Rattle.radio_keys.specs.declared.fault.SettingsFault.TheVariants.{NotToml, Missing, WrongKind, OutOfRange, MountTwice, BadName, OutOfMemory}
use Rattle.radio_keys.specs.Keys.{word}

-- rule: Reading settings
abbrev pub settings_fault_text : SettingsFault → List ℕ
settings_fault_text NotToml = codes "not toml"
settings_fault_text (Missing key) = codes "missing " ++ word key
settings_fault_text (WrongKind key) = codes "wrong kind " ++ word key
settings_fault_text (OutOfRange key) = codes "out of range " ++ word key
settings_fault_text (MountTwice name) = codes "mount twice " ++ name
settings_fault_text (BadName key) = codes "bad name " ++ word key
settings_fault_text OutOfMemory = codes "out of memory"
