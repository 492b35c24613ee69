-- The moves that events bring, and the turn of each listener in them.
use Rattle.std.specs.Prelude.{◌≡◌, ℕ, ◌+◌, true, false, List, ◌∷◌, ◌++◌, fold}
use Rattle.radio_policy.specs.declared.rule.Rule.{Rule}
use Rattle.radio_policy.specs.declared.judgement.Verdict.TheVariants.{Allow}
use Rattle.radio_policy.specs.Verdicts.{verdict_in}
use Rattle.radio_addr.specs.declared.peer.Peer.{Peer}
use Rattle.radio_values.specs.declared.field.Shown.{Shown}
use Rattle.radio_settings_values.specs.Options.{options_for}
use Rattle.radio_fallback.specs.declared.moves.Move.{Move}
use Rattle.radio_fallback.specs.declared.moves.Move.TheVariants.{Ended, Up, To}
use Rattle.radio_fallback.specs.declared.moves.MoveEffect.{MoveEffect}
use Rattle.radio_fallback.specs.declared.moves.MoveEffect.TheVariants.{GoesTo, IsOut}
use Rattle.radio_fallback.specs.Carry.{turn_of, at_his_turn}
use Rattle.radio_seats_rows.specs.declared.seat.Seat.{Seat}
use Rattle.radio_events.specs.declared.event.Event.{Event}
use Rattle.radio_events.specs.declared.event.Event.TheVariants.{Source, SourceEnd, RelayUp, Clock}
use Rattle.radio_events.specs.declared.event.SourceRequest.{SourceRequest}
use Rattle.radio_parts_station.specs.declared.standing.Standing.TheVariants.{Undecided, Feeds}
use Rattle.radio_parts_changes.specs.Changes.{session_begun, session_raised, session_over, before_silence, silent_in, session_silenced}
use Rattle.radio_events.specs.declared.command.Command.TheVariants.{MoveClients, KillSource}
use Rattle.radio_parts.specs.Closing.{Closes}
use Rattle.radio_parts.specs.Allowed.{IsCommanded}
use Rattle.radio_parts_station.specs.Facts.{sight_of, rows_to_feed, rows_to_raise}
use Rattle.radio_parts_mount.specs.Sessions.{Session}
use Rattle.radio_parts_station.specs.Streams.{shown_for}
use Rattle.radio_parts_mount.specs.Stream.{end_of}
use Rattle.radio_parts_station.specs.World.{World, standing_of, has_relay}

-- what the move has in store for the listener at its turn; w is the state before the first turn.
-- listeners with lower numbers have had their turns
-- rule: Turns of a move
abbrev pub his_turn : World → Move → ℕ → MoveEffect
his_turn w move id = turn_of (sight_of w.station) move (at_his_turn (sight_of w.station) move w.seats id) id

-- the seat that goes on in the session, from the end of its stream; all else of it stays
abbrev pub moved_into : Session → Seat → Seat
moved_into session seat = record seat { mount = session.mount; session = session.number; place = end_of session.stream }

-- the event brings the move, and this is the state before the first listener has its turn
-- rule: End of a session
pub data Brings (w : World) : Event → Move → World → Type 0 where
  -- a source's data end
  ByItsEnd : (him : ℕ) (mount : List ℕ) → standing_of w him ≡ Feeds mount → has_relay w him ≡ false → Brings w (SourceEnd him) (Ended mount) (session_over w mount)
  -- a source leaves, or a relay goes down
  ByItsLeaving : (event : Event) (him : ℕ) (mount : List ℕ) → Closes w him event → standing_of w him ≡ Feeds mount
      → Brings w event (Ended mount) (session_over w mount)
  -- a source has sent nothing in the time that it has for it; the sessions before its own that are silent too have ended
  BySilence : (ms : ℕ) (before others : List Session) (session : Session) → silent_in (before_silence w ms) ≡ before ++ session ∷ others
      → Brings w (Clock ms) (Ended session.mount) (session_over (fold session_silenced (before_silence w ms) before) session.mount)
  -- a source comes up on a mount that calls its listeners home
  ByComingUp : (asked : SourceRequest) (peer : Peer) → standing_of w asked.id ≡ Undecided peer → verdict_in (rows_to_feed w.station asked) ≡ Allow
      → (options_for w.station.settings asked.mount).listeners.fallback_override ≡ true
      → Brings w (Source asked) (Up asked.mount) (session_begun w asked.id asked.mount (shown_for w.station asked.mount asked.shown))
  -- and so does a relay
  ByRelayUp : (mount : List ℕ) (shown : Shown) → verdict_in (rows_to_raise w.station mount shown) ≡ Allow
      → (options_for w.station.settings mount).listeners.fallback_override ≡ true
      → Brings w (RelayUp mount shown) (Up mount) (session_raised w (w.station.last_id + 1) mount (shown_for w.station mount shown))
  -- a command ends the session of a mount
  ByKilling : (event : Event) (mount : List ℕ) → IsCommanded w event (KillSource mount) → Brings w event (Ended mount) (session_over w mount)
  -- a command moves the listeners of a mount to another
  ByMoving : (event : Event) (mount destination : List ℕ) → IsCommanded w event (MoveClients mount destination) → Brings w event (To mount destination) w

-- a move that the event brings takes it to the mount at its turn
-- rule: End of a session
abbrev pub TakesTo : World → Event → ℕ → List ℕ → Type 0
TakesTo w event id mount = (move : Move) × (during : World) × Brings w event move during × (his_turn during move id ≡ GoesTo mount)

-- a move that the event brings leaves it nowhere to sit: the rule stops its walk at its turn
-- rule: End of a session
abbrev pub LeavesOut : World → Event → ℕ → Rule → Type 0
LeavesOut w event id rule = (move : Move) × (during : World) × Brings w event move during × (his_turn during move id ≡ IsOut rule)
