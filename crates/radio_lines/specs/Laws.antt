-- What holds of sources' ends, and of sockets that are asked. Moments and times are in milliseconds.
use Rattle.std.specs.Prelude.{◌≡◌, ◌≤◌, ◌<◌, ◌+◌, ◌^◌, ℕ, Bool, true, false}
use Rattle.radio_lines.specs.declared.closing.FoundClosing.{FoundClosing}
use Rattle.radio_lines.specs.declared.ready.SocketReport.{SocketReport}
use Rattle.radio_lines.specs.declared.ready.Ready.{Ready}
use Rattle.radio_lines.specs.Closings.{answers_closing}
use Rattle.radio_lines.specs.Ready.{after_read, after_report, brings_work, may_read, may_write, without_room}

-- the end of a source is answered once all have drawn what came before, and half a second after it was found in any case
abbrev pub EndsAreAnsweredInTime : Type 0
EndsAreAnsweredInTime = (found : FoundClosing) (drawn ms : ℕ)
    → (found.raised ≤ drawn → answers_closing found drawn ms ≡ true) × (found.ms + 500 ≤ ms → answers_closing found drawn ms ≡ true)

-- and not before
abbrev pub EndsAreHeld : Type 0
EndsAreHeld = (found : FoundClosing) (drawn ms : ℕ) → drawn < found.raised → ms < found.ms + 500 → answers_closing found drawn ms ≡ false

-- what nobody wants is read once in a tenth of a second at most
abbrev pub UnwantedWait : Type 0
UnwantedWait = (ready : Ready) (filled : Bool) (ms now : ℕ) → ready.is_passed_over ≡ true → ms < 2 ^ 63 → now < ms + 100
    → may_read now (after_read filled ms ready) ≡ false

-- and wakes nobody
abbrev pub UnwantedWakeNobody : Type 0
UnwantedWakeNobody = (ready : Ready) (notice : SocketReport) → ready.is_passed_over ≡ true → notice.writes ≡ false → notice.is_over ≡ false
    → brings_work notice ready ≡ false

-- a line that took nothing is asked again after a second, and not before
abbrev pub StalledAreAskedAgain : Type 0
StalledAreAskedAgain = (ready : Ready) (ms now : ℕ) → ms < 2 ^ 63
    → (now < ms + 1000 → may_write now (without_room ms ready) ≡ false) × (ms + 1000 ≤ now → may_write now (without_room ms ready) ≡ true)

-- unless the system reports room
abbrev pub RoomIsTaken : Type 0
RoomIsTaken = (ready : Ready) (notice : SocketReport) (ms now : ℕ) → notice.writes ≡ true → may_write now (after_report notice (without_room ms ready)) ≡ true
