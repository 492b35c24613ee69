-- What a line knows of its bytes.
use Rattle.std.specs.Prelude.{◌≡◌, ◌+◌, ◌<◌, ◌≤◌, ℕ, suc, List, ◌++◌, length, take}
use Rattle.radio_connections.specs.declared.line.Received.{Received}
use Rattle.radio_connections.specs.declared.line.Received.TheVariants.{Bytes, Nothing, Closed, Fault}
use Rattle.radio_connections.specs.declared.line.Sent.{Sent}
use Rattle.radio_connections.specs.declared.line.Sent.TheVariants.{Took, Nothing as TookNothing, Fault as HasFailed}

-- The calls of a line: how often it was read, how much room all these reads had, and how often it was written to. Then how often
-- it has failed, and how often it has reported that its peer has closed.
-- rule: Pending bytes first
pub record Calls : Type 0 where
  pub reads : ℕ
  pub room : ℕ
  pub writes : ℕ
  pub faults : ℕ
  pub closings : ℕ

abbrev pub no_calls : Calls
no_calls = record { reads = 0; room = 0; writes = 0; faults = 0; closings = 0 }

-- one read more, into so much room
abbrev pub read_once : ℕ → Calls → Calls
read_once room calls = record calls { reads = suc calls.reads; room = calls.room + room }

-- a read into so much room is counted, by its answer
-- rule: Pending bytes first
abbrev pub calls_after_read : Received → ℕ → Calls → Calls
calls_after_read (Bytes n) room calls = read_once room calls
calls_after_read Nothing room calls = read_once room calls
calls_after_read Closed room calls = record (read_once room calls) { closings = suc calls.closings }
calls_after_read Fault room calls = record (read_once room calls) { faults = suc calls.faults }

-- one write more
abbrev pub written_once : Calls → Calls
written_once calls = record calls { writes = suc calls.writes }

-- a write is counted, by its answer
-- rule: Pending bytes first
abbrev pub after_write : Sent → Calls → Calls
after_write (Took n) calls = written_once calls
after_write TookNothing calls = written_once calls
after_write HasFailed calls = record (written_once calls) { faults = suc calls.faults }

-- by this answer, with these bytes in the buffer, all that the line gave before has become what it gave by now
-- rule: Pending bytes first
abbrev pub HasGiven : Received → List ℕ → List ℕ → List ℕ → Type 0
HasGiven (Bytes n) buffer before now = (n ≤ length buffer) × (now ≡ before ++ take n buffer)
HasGiven Nothing buffer before now = now ≡ before
HasGiven Closed buffer before now = now ≡ before
HasGiven Fault buffer before now = now ≡ before

-- by this answer to these bytes, all that the line took before has become what it took by now
-- rule: Pending bytes first
abbrev pub HasTaken : Sent → List ℕ → List ℕ → List ℕ → Type 0
HasTaken (Took n) bytes before now = (0 < n) × (n ≤ length bytes) × (now ≡ before ++ take n bytes)
HasTaken TookNothing bytes before now = now ≡ before
HasTaken HasFailed bytes before now = now ≡ before
