-- What a move makes of each listener, by the state at its turn.
use Rattle.std.specs.Prelude.{◌≡◌, ℕ, true, List, Some}
use Rattle.radio_policy.specs.declared.rule.Rule.{Rule}
use Rattle.radio_fallback.specs.declared.moves.Move.{Move}
use Rattle.radio_fallback.specs.declared.moves.Move.TheVariants.{Ended, To}
use Rattle.radio_fallback.specs.declared.moves.MoveEffect.TheVariants.{Stays, GoesTo, IsOut}
use Rattle.radio_values.specs.declared.field.Shown.{Shown}
use Rattle.radio_seats_rows.specs.declared.seat.Seat.{Seat}
use Rattle.radio_seats_rows.specs.declared.seat.Seating.TheVariants.{Finished}
use Rattle.radio_seats_rows.specs.Seats.{listener_of, seat_of}
use Rattle.radio_events.specs.declared.event.Event.{Event}
use Rattle.radio_events.specs.declared.event.Event.TheVariants.{Source, SourceEnd, RelayUp}
use Rattle.radio_events.specs.declared.event.SourceRequest.{SourceRequest}
use Rattle.radio_events.specs.declared.command.Command.TheVariants.{MoveClients, KillSource}
use Rattle.radio_parts_changes.specs.Changes.{carried_along, session_over}
use Rattle.radio_parts.specs.Closing.{Closes}
use Rattle.radio_parts.specs.Allowed.{IsCommanded}
use Rattle.radio_core.specs.Moves.{Brings, his_turn}
use Rattle.radio_parts_mount.specs.Sessions.{Session}
use Rattle.radio_parts.specs.Step.{world_after}
use Rattle.radio_parts_mount.specs.Stream.{end_of}
use Rattle.radio_parts_station.specs.World.{World}
use Rattle.radio_parts_station.specs.Waiting.{heard_at, is_on_demand}

-- what a move makes of a listener that had this seat before. It goes on at the end of the stream of the mount to which its turn takes it.
-- Or the rule that leaves it out finishes it where it sat. Or it keeps its seat, but not if the session of its mount has ended.
-- At a mount that a relay feeds on demand it goes on then, to wait there for the next session
-- rule: Turns of a move; End at a waiting mount
pub record FaresByHisTurn (before : World) (move : Move) (id : ℕ) (seat : Seat) : Type 0 where
  pub goes : (mount : List ℕ) → his_turn before move id ≡ GoesTo mount → (session : Session) × (heard_at before.station mount ≡ Some session)
      × (seat_of (carried_along before move).seats id ≡ Some (record seat { mount = mount; session = session.number; place = end_of session.stream }))
  pub is_out : (rule : Rule) → his_turn before move id ≡ IsOut rule
      → listener_of (carried_along before move).seats id ≡ Some (record { id = id; seating = Finished rule seat.mount })
  pub stays : his_turn before move id ≡ Stays → seat_of (carried_along before move).seats id ≡ Some seat
  pub leaves : (mount : List ℕ) → move ≡ Ended mount → seat.mount ≡ mount → his_turn before move id ≡ Stays → ⊥
  pub waits : (mount : List ℕ) → move ≡ Ended mount → seat.mount ≡ mount → is_on_demand before.station.settings mount ≡ true
      → his_turn before move id ≡ GoesTo mount

-- a move that an event brings makes of each listener what its turn has in store for it
-- rule: Turns of a move
abbrev pub ListenersWalkOn : World → Event → Type 0
ListenersWalkOn w event = (move : Move) (before : World) → Brings w event move before → (id : ℕ) (seat : Seat) → seat_of before.seats id ≡ Some seat
    → FaresByHisTurn before move id seat

-- nothing else happens to the seats when a source or relay comes up, ends or leaves, or a command moves listeners or ends a session
-- rule: Changes of seats
pub record MovesAreWhole (w : World) (event : Event) : Type 0 where
  pub at_its_coming : (asked : SourceRequest) (move : Move) (before : World) → event ≡ Source asked → Brings w event move before
      → (world_after w event).seats ≡ (carried_along before move).seats
  pub at_a_relays_coming : (mount : List ℕ) (shown : Shown) (move : Move) (before : World) → event ≡ RelayUp mount shown → Brings w event move before
      → (world_after w event).seats ≡ (carried_along before move).seats
  pub at_its_end : (him : ℕ) (move : Move) (before : World) → event ≡ SourceEnd him → Brings w event move before
      → (world_after w event).seats ≡ (carried_along before move).seats
  pub at_a_move : (mount destination : List ℕ) → IsCommanded w event (MoveClients mount destination)
      → (world_after w event).seats ≡ (carried_along w (To mount destination)).seats
  pub at_a_kill : (mount : List ℕ) → IsCommanded w event (KillSource mount)
      → (world_after w event).seats ≡ (carried_along (session_over w mount) (Ended mount)).seats
  pub at_its_leaving : (him : ℕ) (move : Move) (before : World) → Closes w him event → Brings w event move before → (id : ℕ) → (him ≡ id → ⊥)
      → listener_of (world_after w event).seats id ≡ listener_of (carried_along before move).seats id
