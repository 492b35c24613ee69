-- what an outcome makes of the table of listeners
use Rattle.std.proofs.Common.{◌+◌, ◌≡◌, Bool, ℕ, Option, Some, None, List, refl, ap}
use Rattle.radio_laws.proofs.Words.{length, Peer, Rule, Lagged, Killed, ListenerPassword, Listener, Seat, seat_of, with_seat, with_place, with_end, with_ended, with_session_at, without_listener, Move, To, Lands, carried}
use Rattle.radio_laws.proofs.Words.{Session, session_of, data_at, lags_behind, sight_of, walks_to, StationState, begun, raised, is_shut_out, shown_for, heard_at, Undecided, World, world, standing_of, MoveClients}
use Rattle.radio_laws.proofs.Words.{KillClient, KillSource, SetFallback, AddUser, DeleteUser, Event, Clock, ListenRequest, Noted, Change, Obey, answered, changed, session_over, session_ended, called_home, session_killed}
use Rattle.radio_laws.proofs.Words.{user_added, user_deleted, ticked, Outcome, Closes, OfClient, OfRelay, first_seat, says, outcome, reply_to, world_after, Way, Misplaced, IsFinished, IsDenied, IsRefused, IsAdmitted}
use Rattle.radio_laws.proofs.Words.{Begins, ComesUp, Receives, SetsTitle, TakesSeat, HandsOut, Ends, EndsAndLeaves, Leaves, GoesDown, Obeys, Shows, HasPassed, Ticks, way_of, Leaving, AsClient, AsRelay}
use Rattle.radio_fallback.specs.declared.moves.Move.TheVariants.{Ended as SessionEnds}
use Rattle.radio_events.specs.declared.command.Command.{Command as TheCommand}
use Rattle.radio_events.specs.declared.command.Command.TheVariants.{SetTitle as NewTitle}

pub data TableStep (w : World) (event : Event) : List Listener → Type 0 where
  -- it is as it was
  IsUntouched : TableStep w event w.seats
  -- the listeners of which the test holds lose their seats
  AreEnded : (p : Seat → Bool) (rule : Rule) → TableStep w event (with_ended w.seats p rule)
  -- one loses its seat
  IsEnded : (him : ℕ) (rule : Rule) → TableStep w event (with_end w.seats him rule)
  -- a move carries listeners, in a station of the same settings
  AreCarried : (station : StationState) (move : Move) → station.settings ≡ w.station.settings → TableStep w event (carried (sight_of station) move w.seats).seats
  -- the listeners at the mount get a session that has begun there; then others are called home, if the mount calls them
  AreGiven : (station : StationState) (mount : List ℕ) (session : ℕ) → station.settings ≡ w.station.settings
      → TableStep w event (called_home (world station (with_session_at w.seats mount session)) mount).seats
  -- a listener sits down at the mount at which its walk lands
  SitsDown : (asked : ListenRequest) (peer : Peer) (session : Session) → standing_of w asked.id ≡ Undecided peer
      → walks_to w.station w.seats asked.mount asked.pair ≡ Lands session.mount → heard_at w.station session.mount ≡ Some session
      → TableStep w event (with_seat w.seats asked.id (first_seat w.station asked peer session))
  -- a listener gets data, and its place moves on
  IsHanded : (him place : ℕ) (seat : Seat) → seat_of w.seats him ≡ Some seat → TableStep w event (with_place w.seats him place)
  -- a listener that leaves has no row any more
  IsGone : (him : ℕ) → Leaving w him event → TableStep w event (without_listener w.seats him)
  -- the session of a source that leaves has ended, and the source has no row either
  SourceIsGone : (him : ℕ) (mount : List ℕ) → Leaving w him event → TableStep w event (without_listener (session_ended w mount).seats him)
  -- the clock ends seats, and then sessions, one after another
  HasTicked : (ms : ℕ) → event ≡ Clock ms → TableStep w event (ticked w ms).seats

module _ (w : World) where
  -- a client whose connection is closed leaves, if the reply is `Noted`
  leaves_by : (event : Event) (him : ℕ) (change : Change) → Closes w him event → outcome w event ≡ says Noted change → Leaving w him event
  unfolding reply_to
  leaves_by event him change (OfClient no_relay) is = AsClient no_relay
  leaves_by event him change (OfRelay relay) is = AsRelay (ap (λ (o : Outcome). o.reply) is)

  killed : (event : Event) (him : ℕ) (found : Option Session) → TableStep w event (session_killed (answered w him) found).seats
  killed event him None = IsUntouched
  killed event him (Some session) = AreCarried (session_over (answered w him) session.mount).station (SessionEnds session.mount) refl

  by_command : (event : Event) (him : ℕ) (command : TheCommand) → TableStep w event (changed w (Obey him command)).seats
  by_command event him (MoveClients mount destination) = AreCarried (answered w him).station (To mount destination) refl
  by_command event him (KillClient mount listener) = IsEnded listener Killed
  by_command event him (KillSource mount) = killed event him (session_of w.station.live mount)
  by_command event him (NewTitle mount text) = IsUntouched
  by_command event him (SetFallback mount fallback) = IsUntouched
  by_command event him (AddUser mount user password) =
      AreEnded (is_shut_out (user_added (answered w him) mount user password).station.lists mount) ListenerPassword
  by_command event him (DeleteUser mount user) =
      AreEnded (is_shut_out (user_deleted (answered w him) mount user).station.lists mount) ListenerPassword

  by_way : (event : Event) (o : Outcome) → Way w event o → outcome w event ≡ o → TableStep w event (changed w o.change).seats
  by_way event o (Misplaced _) is = IsUntouched
  by_way event o (IsFinished _ him rule its told) is = IsUntouched
  by_way event o (IsDenied _ rule v nobody) is = IsUntouched
  by_way event o (IsRefused _ him rule v its undecided) is = IsUntouched
  by_way event o (IsAdmitted peer allowed) is = IsUntouched
  by_way event o (Begins asked undecided none allowed) is =
      AreGiven (begun w.station asked.id asked.mount (shown_for w.station asked.mount asked.shown)) asked.mount asked.id refl
  by_way event o (ComesUp mount shown unfed allowed) is =
      AreGiven (raised w.station (w.station.last_id + 1) mount (shown_for w.station mount shown)) mount (w.station.last_id + 1) refl
  by_way event o (Receives him mount block feeding) is = AreEnded (lags_behind mount _ w.station.settings.limits.queue_size) Lagged
  by_way event o (SetsTitle him mount text feeding) is = IsUntouched
  by_way event o (TakesSeat asked peer session undecided lands live allowed) is = SitsDown asked peer session undecided lands live
  by_way event o (HandsOut him room seat session sits has live) is =
      IsHanded him (seat.place + length (data_at session.stream seat.place room)) seat has
  by_way event o (Ends him mount feeding no_relay) is = AreCarried (session_over w mount).station (SessionEnds mount) refl
  by_way event o (EndsAndLeaves _ him mount closes feeding) is = SourceIsGone him mount (leaves_by event him o.change closes is)
  by_way event o (Leaves him no_relay other) is = IsGone him (AsClient no_relay)
  by_way event o (GoesDown him rule relay told) is = IsGone him (leaves_by event him o.change (OfRelay relay) is)
  by_way event o (Obeys _ command c) is = by_command event c.asked.id command
  by_way event o (Shows _ asker peer text its undecided what) is = IsUntouched
  by_way event o (HasPassed ms e) is = IsUntouched
  by_way event o (Ticks ms e) is = HasTicked ms refl

  pub table_step : (event : Event) → TableStep w event (world_after w event).seats
  unfolding world_after
  table_step event = by_way event (outcome w event) (way_of w event) refl
