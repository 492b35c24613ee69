-- Calls of a stream that do nothing. Moments are in milliseconds.
use Rattle.std.specs.Prelude.{◌≡◌, ◌⊎◌, ℕ}
use Rattle.std.specs.declared.io.ErrorKind.{ErrorKind}
use Rattle.std.specs.declared.io.ErrorKind.TheVariants.{WouldBlock, Interrupted}
use Rattle.radio_connections.specs.declared.line.Received.{Received}
use Rattle.radio_connections.specs.declared.line.Received.TheVariants.{Nothing, Fault}
use Rattle.radio_connections.specs.declared.line.Sent.{Sent}
use Rattle.radio_connections.specs.declared.line.Sent.TheVariants.{Nothing as TookNothing, Fault as HasFailed}
use Rattle.radio_lines.specs.declared.ready.Ready.{Ready}
use Rattle.radio_lines.specs.declared.stream.Hitch.{Hitch}
use Rattle.radio_lines.specs.declared.stream.Hitch.TheVariants.{Waits, BrokenOff, Failed}
use Rattle.radio_lines.specs.Ready.{without_bytes, without_room}

-- why a call did nothing whose fault is of this kind: it would have waited, or was broken off; any other is a failure
abbrev pub hitch_of : ErrorKind → Hitch
hitch_of WouldBlock = Waits
hitch_of Interrupted = BrokenOff
hitch_of kind = Failed

-- what a line answers then to a read
abbrev pub received_at : Hitch → Received
received_at Waits = Nothing
received_at BrokenOff = Nothing
received_at Failed = Fault

-- what it answers to a write
abbrev pub sent_at : Hitch → Sent
sent_at Waits = TookNothing
sent_at BrokenOff = TookNothing
sent_at Failed = HasFailed

-- what a socket is ready for then: one that would have waited has nothing to read
abbrev pub ready_to_read : Hitch → Ready → Ready
ready_to_read Waits ready = without_bytes ready
ready_to_read BrokenOff ready = ready
ready_to_read Failed ready = ready

-- and no room, if it was written to at this moment
abbrev pub ready_to_write : Hitch → ℕ → Ready → Ready
ready_to_write Waits ms ready = without_room ms ready
ready_to_write BrokenOff ms ready = ready
ready_to_write Failed ms ready = ready

-- a read leaves the readiness, unless the call did nothing
abbrev pub IsReadyToRead : Received → Ready → Ready → Type 0
IsReadyToRead received before now =
    (now ≡ before) ⊎ ((hitch : Hitch) × (received ≡ received_at hitch) × (now ≡ ready_to_read hitch before))

-- and so does a write
abbrev pub IsReadyToWrite : ℕ → Sent → Ready → Ready → Type 0
IsReadyToWrite ms sent before now =
    (now ≡ before) ⊎ ((hitch : Hitch) × (sent ≡ sent_at hitch) × (now ≡ ready_to_write hitch ms before))
