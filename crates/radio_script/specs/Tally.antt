-- What a tally keeps in addition to its device.
use Rattle.std.specs.Prelude.{ℕ, Bool}
use Rattle.radio_script.specs.declared.tally.Tally.{Tally}

-- the device that is counted
abbrev pub device_of : {D : Type 0} → Tally D → D
device_of tally = tally.device

-- how often it was called to read or to write
abbrev pub calls_of : {D : Type 0} → Tally D → ℕ
calls_of tally = tally.calls

-- how often it failed
abbrev pub failures_of : {D : Type 0} → Tally D → ℕ
failures_of tally = tally.failures

-- whether nothing was written since the last flush
abbrev pub has_flushed : {D : Type 0} → Tally D → Bool
has_flushed tally = tally.is_flushed
