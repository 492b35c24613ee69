use Rattle.std.proofs.Common.{◌≡◌}
use Rattle.radio_parts_table.proofs.Words.{passes_in, how_many, with_ended}
use Rattle.radio_parts_table.proofs.listeners.Listeners.finish_if.Given as goal

-- where the rest end too, all have ended
abbrev pub invariant-mounts : goal.invariant-mounts
invariant-mounts g l =
    (l.self.prepared ≡ l.initial.self.prepared)
    × (with_ended l.self.seats (passes_in (g.T.SeatTest.passes l.fn.test)) l.fn.rule
    ≡ with_ended l.initial.self.seats (passes_in (g.T.SeatTest.passes l.fn.test)) l.fn.rule)
    × (l.self.live ≡ l.initial.self.live)

abbrev pub decreases-mounts : goal.decreases-mounts
decreases-mounts g l = how_many (passes_in (g.T.SeatTest.passes l.fn.test)) l.self.seats
