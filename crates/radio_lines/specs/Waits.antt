-- What the system reports of a thread's sockets. Moments are in milliseconds, if nothing else is said.
use Rattle.std.specs.Prelude.{ℕ, Bool, ◌/◌, ◌^◌, ◌-◌, ◌==◌, ◌||◌, nat_le}
use Rattle.mio.specs.declared.token.Token.{Token}
use Rattle.radio_lines.specs.declared.sockets.Polled.{Polled}
use Rattle.radio_lines.specs.declared.sockets.PollReport.{PollReport}

-- what was reported, at this moment in microseconds
abbrev pub polled_at : ℕ → PollReport → Polled
polled_at us report = record { ms = us / 1000; us = us; is_ready = report.is_ready; is_called = report.is_called }

-- whether a wait until a moment ends, at this one in microseconds: a line has something to do, the waker was called, or the moment
-- has come
abbrev pub ends_wait : ℕ → ℕ → PollReport → Bool
ends_wait us ends report = report.is_ready || report.is_called || nat_le ends (us / 1000)

-- the name of a thread's waker: any other is the number of a line
abbrev pub is_waker : Token → Bool
is_waker token = token.0 == 2 ^ 64 - 1
