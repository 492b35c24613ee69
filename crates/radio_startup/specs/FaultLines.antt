-- What the line on standard error says of a file that is not taken, after `radiod: `, and the status with which the
-- program then ends.
use Rattle.std.specs.Prelude.{ℕ, List, [], ◌++◌, codes, None, Some}
use Rattle.std.specs.Fmt.{decimal}
use Rattle.std.specs.String.{string_bytes}
use Rattle.radio_keys.specs.declared.fault.SettingsFault.{SettingsFault}
use Rattle.radio_keys.specs.declared.fault.SettingsFault.TheVariants.{OutOfMemory as NoMemoryForSettings}
use Rattle.radio_keys.specs.Words.{settings_fault_text}
use Rattle.radio_settings.specs.Sections.{section_word}
use Rattle.radio_log.specs.declared.facts.FaultyKey.{FaultyKey}
use Rattle.radio_startup.specs.declared.fault.FileFault.{FileFault}
use Rattle.radio_startup.specs.declared.fault.FileFault.TheVariants.{CannotRead, Line, NotToml, Settings, OutOfMemory}

-- rule: Fault of a call
abbrev pub file_fault_text : FileFault → List ℕ
file_fault_text (CannotRead path error) = codes "cannot read " ++ string_bytes path
file_fault_text (Line path line) = string_bytes path ++ (codes " line " ++ decimal line)
file_fault_text (NotToml misreading) = codes "not toml"
file_fault_text (Settings fault at) = settings_fault_text fault
file_fault_text OutOfMemory = codes "out of memory"

-- want of memory is no fault of the settings
abbrev pub settings_status : SettingsFault → ℕ
settings_status NoMemoryForSettings = 1
settings_status fault = 3

-- 3 for what a file is, 1 if memory was refused
-- rule: Fault of a call
abbrev pub file_status : FileFault → ℕ
file_status (CannotRead path error) = 3
file_status (Line path line) = 3
file_status (NotToml misreading) = 3
file_status (Settings fault at) = settings_status fault
file_status OutOfMemory = 1

-- the path of the file that is at fault, that of the settings among them; empty if memory was refused
abbrev pub file_in : FileFault → List ℕ → List ℕ
file_in (CannotRead path error) settings = string_bytes path
file_in (Line path line) settings = string_bytes path
file_in (NotToml misreading) settings = settings
file_in (Settings fault at) settings = settings
file_in OutOfMemory settings = []

-- the line and the column of a fault, counted from 1; each is 0 if it is not known
abbrev pub place_in_file : FileFault → ℕ × ℕ
place_in_file (CannotRead path error) = (0, 0)
place_in_file (Line path line) = (line, 0)
place_in_file (NotToml misreading) = (misreading.line, misreading.column)
place_in_file (Settings fault (Some at)) = (at.line, 0)
place_in_file (Settings fault None) = (0, 0)
place_in_file OutOfMemory = (0, 0)

abbrev pub no_key : FaultyKey
no_key = record { table = []; mount = []; value = []; allowed = [] }

-- which key of the settings a fault is of, if it is of one
abbrev pub key_in : FileFault → FaultyKey
key_in (Settings fault (Some at)) = record {
  table = section_word at.section;
  mount = string_bytes at.mount;
  value = string_bytes at.value;
  allowed = string_bytes at.allowed;
}
key_in fault = no_key
