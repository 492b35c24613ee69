-- The mount where a listener sits, or sat last.
use Rattle.std.specs.Prelude.{◌≡◌, ℕ, nat_lt, true, false, None, Some}
use Rattle.radio_policy.specs.declared.rule.Rule.{Rule}
use Rattle.radio_fallback.specs.declared.moves.Move.{Move}
use Rattle.radio_seats_rows.specs.declared.seat.Seat.{Seat}
use Rattle.radio_seats_rows.specs.Seats.{listener_of, seat_of, last_mount_of}
use Rattle.radio_parts_mount.specs.Timeouts.{has_sat_out}
use Rattle.radio_events.specs.declared.event.Event.{Event}
use Rattle.radio_events.specs.declared.event.Event.TheVariants.{Clock}
use Rattle.radio_parts_station.specs.declared.standing.Standing.TheVariants.{Finished}
use Rattle.radio_parts_station.specs.World.{World, standing_of}
use Rattle.radio_parts_changes.specs.Changes.{carried_along}
use Rattle.radio_core.specs.Moves.{Brings}
use Rattle.radio_parts.specs.Step.{world_after}
use Rattle.radio_laws.specs.Gone.{Leaving}

-- a listener with a seat sits last at its seat's mount
abbrev pub IsLastWhereHeSits : World → Type 0
IsLastWhereHeSits w = (id : ℕ) (seat : Seat) → seat_of w.seats id ≡ Some seat → last_mount_of w.seats id ≡ Some seat.mount

-- a listener that had a seat and is finished by an event other than a clock sat last at that seat's mount
-- rule: Last mount
abbrev pub FinishedWhereHeSat : World → Event → Type 0
FinishedWhereHeSat w event = ((ms : ℕ) → event ≡ Clock ms → ⊥) → (id : ℕ) (seat : Seat) (rule : Rule) → seat_of w.seats id ≡ Some seat
    → standing_of (world_after w event) id ≡ Finished rule → last_mount_of (world_after w event).seats id ≡ Some seat.mount

-- so does a listener that a clock ends, if the clock does not go back. The clock does two things, one after the other
-- rule: Last mount
pub record EndedByClockWhereTheySat (w : World) (ms : ℕ) : Type 0 where
  -- first it ends each listener that has sat as long as its home allows
  pub sat_out : nat_lt ms w.station.time ≡ false → (id : ℕ) (seat : Seat) → seat_of w.seats id ≡ Some seat → has_sat_out w.station.settings ms seat ≡ true
      → last_mount_of (world_after w (Clock ms)).seats id ≡ Some seat.mount
  -- then it ends sessions. A listener that loses its seat by the end of one sat last where it had it just before. The end of an earlier one
  -- may have taken it there
  pub left_out : nat_lt ms w.station.time ≡ false → (move : Move) (before : World) → Brings w (Clock ms) move before → (id : ℕ) (seat : Seat)
      → seat_of before.seats id ≡ Some seat → seat_of (carried_along before move).seats id ≡ None
      → last_mount_of (world_after w (Clock ms)).seats id ≡ Some seat.mount

-- a finished listener keeps its row, with the rule and the mount where it sat last, whatever happens, until it leaves
-- rule: Last mount
abbrev pub FinishedRowsStay : World → Event → Type 0
FinishedRowsStay w event = (id : ℕ) (rule : Rule) → standing_of w id ≡ Finished rule → (Leaving w id event → ⊥)
    → listener_of (world_after w event).seats id ≡ listener_of w.seats id
