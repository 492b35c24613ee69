-- What a reader with a buffer has left, and what it has counted.
use Rattle.std.specs.Prelude.{ℕ, List, Option}
use Rattle.std.specs.Io.Buffered.{reader_remaining}
use Rattle.radio_script.specs.declared.buffered_tally.BufferedTally.{BufferedTally}

-- what is in its buffer, and then what the reader behind it has, if that is known
abbrev pub bytes_left : {R : Type 0} → (R → Option (List ℕ)) → BufferedTally R → Option (List ℕ)
bytes_left remaining tally = reader_remaining remaining tally.reader

-- how often it was called to read
abbrev pub buffered_calls : {R : Type 0} → BufferedTally R → ℕ
buffered_calls tally = tally.calls

-- how often it failed
abbrev pub buffered_failures : {R : Type 0} → BufferedTally R → ℕ
buffered_failures tally = tally.failures
