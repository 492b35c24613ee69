-- The lines of a server's faults.
use Rattle.std.specs.Prelude.{ℕ, List, codes}
use Rattle.radio_sockets.specs.declared.fault.ServeFault.{ServeFault}
use Rattle.radio_sockets.specs.declared.fault.ServeFault.TheVariants.{Accept, OutOfMemory}

abbrev pub serve_fault_text : ServeFault → List ℕ
serve_fault_text Accept = codes "accept fault"
serve_fault_text OutOfMemory = codes "out of memory"
