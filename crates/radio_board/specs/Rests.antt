-- How a worker waits until its next turn. Times are in milliseconds, if nothing else is said.
use Rattle.std.specs.Prelude.{ℕ, Bool, true, false, ◌+◌, ◌/◌, ◌&&◌, min, nat_lt, if◌then◌else◌, Option, None, Some}
use Rattle.radio_board.specs.declared.idle_wait.IdleWait.{IdleWait}
use Rattle.radio_board.specs.declared.idle_wait.IdleWait.TheVariants.{Turn, Asleep, Paused}
use Rattle.radio_board.specs.declared.worker_state.Step.{Step}
use Rattle.radio_board.specs.declared.worker_state.Step.TheVariants.{Wake}

-- it waits at once for no longer than that
abbrev pub most_rest : ℕ
most_rest = 100

-- how it waits: its lines let it wait for so many milliseconds, news waits for so many microseconds more, and is there or expected
-- it makes a turn as soon as a line wants one, and no news wakes it that would have to wait
-- rule: News wakes once
abbrev pub idle_wait_for : ℕ → ℕ → Bool → IdleWait
idle_wait_for lines left expected =
    if nat_lt lines most_rest then Turn lines
    else if nat_lt 0 left && expected then Paused (min most_rest (left / 1000 + 1))
    else Asleep most_rest

-- how long it waits at most
abbrev pub longest : IdleWait → ℕ
longest (Turn ms) = ms
longest (Asleep ms) = ms
longest (Paused ms) = ms

-- whether a turn follows, whatever comes
abbrev pub is_turn : IdleWait → Bool
is_turn (Turn ms) = true
is_turn (Asleep ms) = false
is_turn (Paused ms) = false

-- the step of a worker that has waited so: it wakes, if it was marked as waiting
abbrev pub step_behind : IdleWait → Option Step
step_behind (Turn ms) = None
step_behind (Asleep ms) = Some Wake
step_behind (Paused ms) = Some Wake
