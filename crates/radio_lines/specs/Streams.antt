-- The result of a call of a stream, as far as the bytes of the stream are known.
use Rattle.std.specs.Prelude.{◌<◌, ◌≤◌, ℕ, List, length, take, Option}
use Rattle.std.specs.Io.KnownBytes.{Keeps, Appends, Consumes, IsAtEnd}
use Rattle.radio_connections.specs.declared.line.Received.{Received}
use Rattle.radio_connections.specs.declared.line.Received.TheVariants.{Bytes, Nothing, Closed, Fault}
use Rattle.radio_connections.specs.declared.line.Sent.{Sent}
use Rattle.radio_connections.specs.declared.line.Sent.TheVariants.{Took, Nothing as TookNothing, Fault as HasFailed}

-- by this answer to these bytes, what the stream holds has grown by what it took, and by nothing else
-- rule: Full sockets
abbrev pub IsTakenBy : Option (List ℕ) → Option (List ℕ) → List ℕ → Sent → Type 0
IsTakenBy before now bytes (Took n) = (0 < n) × (n ≤ length bytes) × Appends before now (take n bytes)
IsTakenBy before now bytes TookNothing = Keeps before now
IsTakenBy before now bytes HasFailed = Keeps before now

-- by this answer, with these bytes in the buffer, those that came are the front of what was to come; it has closed where nothing is
-- rule: Full sockets
abbrev pub IsGivenBy : Option (List ℕ) → Option (List ℕ) → List ℕ → Received → Type 0
IsGivenBy before now buffer (Bytes n) = (n ≤ length buffer) × Consumes before now (take n buffer)
IsGivenBy before now buffer Nothing = Keeps before now
IsGivenBy before now buffer Closed = Keeps before now × (0 < length buffer → IsAtEnd now)
IsGivenBy before now buffer Fault = Keeps before now
