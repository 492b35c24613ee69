-- When listeners get news at once, and sources are read slowly.
use Rattle.std.specs.Prelude.{ℕ, ◌*◌, ◌/◌, min, nat_lt, nat_le, if◌then◌else◌}
use Rattle.radio_lines.specs.declared.pace.Pace.{Pace}
use Rattle.radio_lines.specs.declared.pace.Pace.TheVariants.{Free, Slow, Stopped}

-- sources are read slowly once the listeners of a worker are so many bytes behind: a quarter of what is kept, or 131,072
-- rule: Sources wait
abbrev pub slow_at : ℕ → ℕ
slow_at queue_size = min 131072 (queue_size / 4)

-- listeners get news at once if so many bytes have come for them: all news if little is kept
-- rule: News waits
abbrev pub much_at : ℕ → ℕ
much_at queue_size = if nat_lt queue_size 65536 then 0 else slow_at queue_size / 4

-- how fast sources are read, if listeners are so many bytes behind: slowly above that bound, not at all above twice as much
-- rule: Sources wait
abbrev pub pace_at : ℕ → ℕ → Pace
pace_at behind slow = if nat_le behind slow then Free else (if nat_le behind (2 * slow) then Slow else Stopped)
