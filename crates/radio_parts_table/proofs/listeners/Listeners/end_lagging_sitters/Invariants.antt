use Rattle.std.proofs.Common.{◌≡◌, length}
use Rattle.radio_parts_table.proofs.Words.{numbers_past, lags_behind, Lagged, with_ended}
use Rattle.radio_parts_table.proofs.LaggingTurns.{turns}
use Rattle.radio_parts_table.proofs.listeners.Listeners.end_lagging_sitters.Given as goal

-- once those who are left have had their turns, all who lag have lost their seats
abbrev pub invariant-listeners : goal.invariant-listeners
invariant-listeners l =
    (l.self.prepared ≡ l.initial.self.prepared)
    × (turns (lags_behind l.fn.mount l.fn.end l.fn.queue) Lagged (numbers_past l.last l.self.seats) l.self.seats
    ≡ with_ended l.initial.self.seats (lags_behind l.fn.mount l.fn.end l.fn.queue) Lagged)
    × (l.self.live ≡ l.initial.self.live)

abbrev pub decreases-listeners : goal.decreases-listeners
decreases-listeners l = length (numbers_past l.last l.self.seats)
