-- What is bound.
use Rattle.std.specs.Prelude.{◌≡◌, List, ◌++◌, codes, decimal}
use Rattle.std.specs.String.{string_bytes}
use Rattle.radio_settings_values.specs.declared.settings.ListenSettings.{ListenSettings}
use Rattle.radiod.specs.declared.fault.Fault.{Fault}
use Rattle.radiod.specs.declared.fault.Fault.TheVariants.{CannotBind, OutOfMemory}
use Rattle.radiod.specs.declared.fault.NotBound.{NotBound}

-- the address and the port of the settings cannot be bound, for this reason; or memory was refused
abbrev pub IsNotBound : ListenSettings → NotBound → Fault → Type 0
IsNotBound listen reason (CannotBind address why) =
    (string_bytes address ≡ listen.address ++ codes ":" ++ decimal listen.port) × (why ≡ reason)
IsNotBound listen reason OutOfMemory = Unit {0}
IsNotBound listen reason fault = ⊥
