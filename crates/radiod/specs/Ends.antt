-- By which faults the parts of the program end.
use Rattle.std.specs.Prelude.{◌≡◌, ◌⊎◌, Bool, true}
use Rattle.radio_script.specs.declared.faults.PlayFault.TheVariants.{Write}
use Rattle.radio_startup.specs.declared.call.CommandLine.{CommandLine}
use Rattle.radio_startup.specs.declared.call.CommandLine.TheVariants.{Play as CallsPlay, Serve as CallsServe, Check as CallsCheck, Version as CallsVersion, Help as CallsHelp}
use Rattle.radiod.specs.declared.fault.Fault.{Fault}
use Rattle.radiod.specs.declared.fault.Fault.TheVariants.{Usage, File, Play, CannotBind, Serve, Warnings, OutOfMemory}

-- the reading of the call's words: they are none that the program knows, or memory was refused
-- rule: Fault of a call
abbrev pub EndsWords : Fault → Type 0
EndsWords Usage = Unit {0}
EndsWords OutOfMemory = Unit {0}
EndsWords fault = ⊥

-- a script: the settings are not taken, it was not played to its end, or memory was refused
-- rule: Fault of a call
abbrev pub EndsPlay : Fault → Type 0
EndsPlay (File fault) = Unit {0}
EndsPlay (Play fault) = Unit {0}
EndsPlay OutOfMemory = Unit {0}
EndsPlay fault = ⊥

-- the service: the settings are not taken, their address cannot be bound, it was ended, or memory was refused
-- rule: Fault of a call
abbrev pub EndsService : Fault → Type 0
EndsService (File fault) = Unit {0}
EndsService (CannotBind address reason) = Unit {0}
EndsService (Serve fault) = Unit {0}
EndsService OutOfMemory = Unit {0}
EndsService fault = ⊥

-- a check: the settings are not taken, there are warnings and it is strict, or memory was refused
-- rule: Fault of a call
abbrev pub EndsCheck : Bool → Fault → Type 0
EndsCheck is_strict (File fault) = Unit {0}
EndsCheck is_strict Warnings = is_strict ≡ true
EndsCheck is_strict OutOfMemory = Unit {0}
EndsCheck is_strict fault = ⊥

-- what the words ask for; of the program's name and its usage, that output takes no more
abbrev pub EndsCall : CommandLine → Fault → Type 0
EndsCall (CallsPlay path) fault = EndsPlay fault
EndsCall (CallsServe path) fault = EndsService fault
EndsCall (CallsCheck path is_strict) fault = EndsCheck is_strict fault
EndsCall CallsVersion fault = fault ≡ Play Write
EndsCall CallsHelp fault = fault ≡ Play Write

-- the program: by its words, or by what they ask for
abbrev pub Ends : Fault → Type 0
Ends fault = EndsWords fault ⊎ ((call : CommandLine) × EndsCall call fault)
