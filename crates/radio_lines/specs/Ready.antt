-- What a socket is ready for.
use Rattle.std.specs.Prelude.{ℕ, Bool, true, false, not, ◌&&◌, ◌||◌, ◌+◌, nat_le, if◌then◌else◌}
use Rattle.mio.specs.declared.event.event.Event.{Event}
use Rattle.mio.specs.Event.{is_readable, is_writable, is_error, is_read_closed, is_write_closed}
use Rattle.radio_connections.specs.Moments.{later}
use Rattle.radio_lines.specs.declared.ready.Ready.{Ready}
use Rattle.radio_lines.specs.declared.ready.SocketReport.{SocketReport}

-- nothing was reported of it yet: it is to be asked, and what comes is wanted
abbrev pub initial_ready : Ready
initial_ready = record { is_readable = true; is_writable = true; is_over = false; is_passed_over = false; read_from_ms = 0; write_from_ms = 0 }

-- the system has reported this; a socket that is over is to be asked at once, since it says so then
abbrev pub after_report : SocketReport → Ready → Ready
after_report notice r = record r {
  is_readable = r.is_readable || notice.reads || notice.is_over;
  is_writable = r.is_writable || notice.writes || notice.is_over;
  is_over = r.is_over || notice.is_over;
  read_from_ms = if notice.is_over then 0 else r.read_from_ms;
}

-- whether there is something to do then: it is over, or has room or bytes that it had not; but for bytes that are not wanted
-- rule: Unwanted bytes
abbrev pub brings_work : SocketReport → Ready → Bool
brings_work notice r = notice.is_over || (notice.writes && not r.is_writable) || (notice.reads && not r.is_readable && not r.is_passed_over)

-- a read gave bytes at this moment, and filled the buffer or not
-- rule: Unwanted bytes
abbrev pub after_read : Bool → ℕ → Ready → Ready
after_read filled ms r =
    if r.is_passed_over then record r { read_from_ms = later ms 100 } else record r { is_readable = filled || r.is_over }

-- whether there may be more to read at once: for bytes that are not wanted there is not
abbrev pub has_more : Ready → Bool
has_more r = r.is_readable && not r.is_passed_over

-- a write at this moment would have waited, or took a part: it is asked again when the system reports room, or after a second
-- rule: Full sockets
abbrev pub without_room : ℕ → Ready → Ready
without_room ms r = record r { is_writable = false; write_from_ms = later ms 1000 }

-- a read would have waited
abbrev pub without_bytes : Ready → Ready
without_bytes r = record r { is_readable = false }

-- nothing is wanted any more of what comes
abbrev pub unwanted : Ready → Ready
unwanted r = record r { is_passed_over = true }

-- whether it is worth a read at a moment: it may have bytes, and is not left alone until later
abbrev pub may_read : ℕ → Ready → Bool
may_read ms r = r.is_readable && nat_le r.read_from_ms ms

-- whether it is worth a write at a moment: it may have room, or has had none for long enough
abbrev pub may_write : ℕ → Ready → Bool
may_write ms r = r.is_writable || nat_le r.write_from_ms ms

-- what an event of the system reports: it is over if it has failed, or a side of it was closed
abbrev pub notice_of : Event → SocketReport
notice_of e = record { reads = is_readable e; writes = is_writable e; is_over = is_error e || is_read_closed e || is_write_closed e }

-- what a flag adds to the number of all flags
abbrev pub flag_if : Bool → ℕ → ℕ
flag_if is_set weight = if is_set then weight else 0

-- the flags in one number, by which they are shared
abbrev pub flags_of : Ready → ℕ
flags_of r = flag_if r.is_readable 1 + flag_if r.is_writable 2 + flag_if r.is_over 4 + flag_if r.is_passed_over 8
