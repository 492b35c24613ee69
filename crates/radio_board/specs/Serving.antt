-- The time that was served.
use Rattle.std.specs.Prelude.{ℕ, Bool, ◌+◌, ◌-◌, ◌^◌, min, max, nat_le}
use Rattle.radio_board.specs.Rests.{most_rest}

-- by so many milliseconds the served time grows from one turn to the next, at most
abbrev pub most_step : ℕ
most_step = 500

-- a worker that makes no turn for longer than so many milliseconds is not served
-- rule: Newcomers; Sources wait
abbrev pub most_still : ℕ
most_still = 2000

-- the last moment of the system's clock, and the time that was served up to then, in milliseconds
pub record Served : Type 0 where
  pub clock : ℕ
  pub served : ℕ

-- the later of two moments, neither of which has more than 64 bits
abbrev pub grown : ℕ → Served → ℕ
grown clock s = min (2 ^ 64 - 1) (s.served + min most_step (clock - s.clock))

-- the system's clock has this moment, and all workers have read up to that one. What has passed since the clock's last moment
-- counts, but no more than a step, and only up to a step beyond what all have read
-- rule: Server time
abbrev pub served_by : ℕ → ℕ → Served → Served
served_by clock all_read s = record { clock = clock; served = max s.served (min (grown clock s) (min (2 ^ 64 - 1) (all_read + most_step))) }

-- the moment that all may get: it is as long ago as a worker waits at most
-- rule: Server time
abbrev pub common_moment : Served → ℕ
common_moment s = s.served - most_rest

-- a worker that began its last turn at one moment is served, if no worker has begun one so long after it
abbrev pub is_served : ℕ → ℕ → Bool
is_served turn latest = nat_le latest (turn + most_still)
