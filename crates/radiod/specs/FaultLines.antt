-- What the line on standard error says of a fault, after `radiod: `, and the status with which the program ends.
use Rattle.std.specs.Prelude.{◌≡◌, ℕ, List, [], codes}
use Rattle.std.specs.String.{string_bytes}
use Rattle.radio_log.specs.declared.facts.Fact.{Fact}
use Rattle.radio_log.specs.declared.facts.Fact.TheVariants.{Fault as FaultFact}
use Rattle.radio_log.specs.declared.facts.FaultyKey.{FaultyKey}
use Rattle.radio_startup.specs.FaultLines.{file_fault_text, file_status, file_in, place_in_file, key_in, no_key}
use Rattle.radio_startup.specs.Sayings.{IsReasonOfFile}
use Rattle.radio_script.specs.Words.{play_fault_text}
use Rattle.radio_sockets.specs.Faults.{serve_fault_text}
use Rattle.radiod.specs.declared.fault.Fault.{Fault}
use Rattle.radiod.specs.declared.fault.NotBound.{NotBound}
use Rattle.radiod.specs.declared.fault.NotBound.TheVariants.{NoAddress, Refused}
use Rattle.radiod.specs.declared.fault.Fault.TheVariants.{Usage, File, Play, CannotBind, Serve, Warnings, OutOfMemory}

-- rule: Fault of a call
abbrev pub fault_line : Fault → List ℕ
fault_line Usage = codes "usage: radiod play SETTINGS | radiod serve SETTINGS"
fault_line (File fault) = file_fault_text fault
fault_line (Play fault) = play_fault_text fault
fault_line (CannotBind address reason) = codes "cannot bind"
fault_line (Serve fault) = serve_fault_text fault
fault_line Warnings = codes "warnings"
fault_line OutOfMemory = codes "out of memory"

-- 2 for the words of the call, 3 for the settings and the files that they name, and else 1
-- rule: Fault of a call
abbrev pub exit_status : Fault → ℕ
exit_status Usage = 2
exit_status (File fault) = file_status fault
exit_status (Play fault) = 1
exit_status (CannotBind address reason) = 1
exit_status (Serve fault) = 1
exit_status Warnings = 3
exit_status OutOfMemory = 1

-- what the log says of a fault: the file that it is in, its line and column, and the key of the settings, if it is one of a file
abbrev pub file_of : Fault → List ℕ → List ℕ
file_of (File fault) settings = file_in fault settings
file_of fault settings = []

abbrev pub fault_place : Fault → ℕ × ℕ
fault_place (File fault) = place_in_file fault
fault_place fault = (0, 0)

abbrev pub faulty_key : Fault → FaultyKey
faulty_key (File fault) = key_in fault
faulty_key fault = no_key

-- the address that was to be bound
abbrev pub bind_address : Fault → List ℕ
bind_address (CannotBind address reason) = string_bytes address
bind_address fault = []

-- why an address cannot be bound, in words: the system's own if it refuses it
abbrev pub IsBindReason : NotBound → List ℕ → Type 0
IsBindReason NoAddress reason = reason ≡ codes "not an IP address"
IsBindReason (Refused error) reason = Unit {0}

-- the reason that is known of a fault; else it is empty
abbrev pub IsReasonOf : Fault → List ℕ → Type 0
IsReasonOf (File fault) reason = IsReasonOfFile fault reason
IsReasonOf (CannotBind address why) reason = IsBindReason why reason
IsReasonOf fault reason = reason ≡ []

-- what the log says of a fault by which the program does not serve, by its words and its reason
abbrev pub fault_fact : List ℕ → Fault → List ℕ → List ℕ → Fact
fault_fact settings fault why reason = FaultFact (record {
  why = why;
  file = file_of fault settings;
  line = (fault_place fault).0;
  column = (fault_place fault).1;
  address = bind_address fault;
  reason = reason;
  at = faulty_key fault;
})
