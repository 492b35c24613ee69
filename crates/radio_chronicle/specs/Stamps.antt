-- Places in the lists of a server.
use Rattle.std.specs.Prelude.{ℕ}
use Rattle.radio_chronicle.specs.declared.stamp.Stamp.{Stamp}

abbrev pub stamp : ℕ → ℕ → Stamp
stamp list serial = record { list = list; serial = serial }
