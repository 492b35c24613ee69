-- The place at which a text is not TOML.
use Rattle.std.specs.Prelude.{◌≡◌, ℕ, List, take}
use Rattle.std.specs.String.{string_bytes}
use Rattle.radio_startup.specs.declared.fault.FileFault.{FileFault}
use Rattle.radio_startup.specs.declared.fault.FileFault.TheVariants.{NotToml, OutOfMemory}
use Rattle.radio_startup.specs.Columns.{line_behind, column_behind}

-- the text is not TOML from this place on, for this reason; or memory was refused
abbrev pub IsMisreadAt : List ℕ → ℕ → List ℕ → FileFault → Type 0
IsMisreadAt text place reason (NotToml misreading) =
    (misreading.line ≡ line_behind (take place text)) × (misreading.column ≡ column_behind (take place text))
    × (string_bytes misreading.reason ≡ reason)
IsMisreadAt text place reason OutOfMemory = Unit {0}
IsMisreadAt text place reason fault = ⊥
