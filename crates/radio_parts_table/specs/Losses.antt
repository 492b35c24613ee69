-- Listeners who lose their seats one after another.
use Rattle.std.specs.Prelude.{ℕ, Bool, if◌then◌else◌}
use Rattle.radio_policy.specs.declared.rule.Rule.{Rule}
use Rattle.radio_seats_rows.specs.declared.seat.Listener.{Listener}
use Rattle.radio_seats_rows.specs.Seats.{loses}

-- who is among the lost has lost its seat by the rule
abbrev pub ended_if_lost : (ℕ → Bool) → Rule → Listener → Listener
ended_if_lost lost rule listener = (if lost listener.id then loses rule listener else listener)
