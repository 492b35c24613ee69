-- The words for a fault of a script that was played.
use Rattle.std.specs.Prelude.{ℕ, List, ◌++◌, codes}
use Rattle.std.specs.Fmt.{decimal}
use Rattle.radio_script.specs.declared.faults.PlayFault.{PlayFault}
use Rattle.radio_script.specs.declared.faults.PlayFault.TheVariants.{Read, Write, Line, TooMuch, OutOfMemory}

abbrev pub play_fault_text : PlayFault → List ℕ
play_fault_text Read = codes "read fault"
play_fault_text Write = codes "write fault"
play_fault_text (Line number) = codes "script line " ++ decimal number
play_fault_text TooMuch = codes "script too long"
play_fault_text OutOfMemory = codes "out of memory"
