-- what an outcome grants, as its reply says
use Rattle.std.proofs.Common.{◌≡◌, ℕ, ◌+◌, Bool, true, false, Some, List, refl}
use Rattle.radio_laws.proofs.Words.{Allow, verdict_in, Peer, Shown, Seat, seat_of, Lands, Session, data_at, Event, Arrive, Source, Listen, Draw, RelayUp, SourceRequest, ListenRequest, Reply, Arrived, Feeding, Seated}
use Rattle.radio_laws.proofs.Words.{Drawn, Stray, ReplyText, client_in, Undecided, Sits, rows_to_arrive, rows_to_feed, rows_to_raise, walks_to, heard_at, World, standing_of, interval_for, head_of, counts_by, Change}
use Rattle.radio_laws.proofs.Words.{Nothing, TakeSeat, Outcome, IsCommanded, said_of, first_seat, says, IsShownBy, outcome, Way, Misplaced, IsFinished, IsDenied, IsRefused, IsAdmitted, Begins, ComesUp, Receives}
use Rattle.radio_laws.proofs.Words.{SetsTitle, TakesSeat, HandsOut, Ends, EndsAndLeaves, Leaves, GoesDown, Obeys, Shows, HasPassed, Ticks, way_of}
use Rattle.radio_events.specs.declared.command.Command.{Command as TheCommand}
use Rattle.radio_events.specs.declared.reply.Reply.TheVariants.{Text as SaysText, Finished}

-- the reply grants something
abbrev pub grants : Reply → Bool
grants (Arrived id) = true
grants Feeding = true
grants (Seated interval head) = true
grants (Drawn bytes title) = true
grants (SaysText text) = true
grants reply = false

-- the reply says that the event was out of place, or that its client has finished
abbrev pub is_idle : Reply → Bool
is_idle Stray = true
is_idle (Finished rule) = true
is_idle reply = false

-- a client that gets this text has asked to be shown something of the station, or has given a command
pub data IsToldFor (w : World) (event : Event) (text : ReplyText) : Type 0 where
  ByShowing : (asker : ℕ) (peer : Peer) → client_in event ≡ Some asker → standing_of w asker ≡ Undecided peer → IsShownBy w event text → IsToldFor w event text
  ByDoing : (command : TheCommand) → IsCommanded w event command → said_of command (counts_by w command) ≡ text → IsToldFor w event text

-- by which event, and why
pub data Granted (w : World) (event : Event) : Outcome → Type 0 where
  AdmitsClient : (peer : Peer) (change : Change) → event ≡ Arrive peer → verdict_in (rows_to_arrive w.station peer) ≡ Allow
      → Granted w event (says (Arrived (w.station.last_id + 1)) change)
  AdmitsSource : (asked : SourceRequest) (change : Change) → event ≡ Source asked → verdict_in (rows_to_feed w.station asked) ≡ Allow
      → Granted w event (says Feeding change)
  AdmitsRelay : (mount : List ℕ) (shown : Shown) (change : Change) → event ≡ RelayUp mount shown → verdict_in (rows_to_raise w.station mount shown) ≡ Allow
      → Granted w event (says (Arrived (w.station.last_id + 1)) change)
  AdmitsListener : (asked : ListenRequest) (peer : Peer) (session : Session) → event ≡ Listen asked → standing_of w asked.id ≡ Undecided peer
      → walks_to w.station w.seats asked.mount asked.pair ≡ Lands session.mount → heard_at w.station session.mount ≡ Some session
      → Granted w event (says (Seated (interval_for w.station asked.mount asked.wants_metadata) (head_of w.station session.shown))
      (TakeSeat asked.id (first_seat w.station asked peer session)))
  HandsData : (id room : ℕ) (seat : Seat) (session : Session) (change : Change) → event ≡ Draw id room → standing_of w id ≡ Sits
      → seat_of w.seats id ≡ Some seat → heard_at w.station seat.mount ≡ Some session
      → Granted w event (says (Drawn (data_at session.stream seat.place room) session.title) change)
  TellsText : (text : ReplyText) (change : Change) → IsToldFor w event text → Granted w event (says (SaysText text) change)
  GrantsNothing : (o : Outcome) → grants o.reply ≡ false → (is_idle o.reply ≡ true → o.change ≡ Nothing) → Granted w event o

granted_by : (w : World) (event : Event) (o : Outcome) → Way w event o → Granted w event o
granted_by w event o (IsAdmitted peer allowed) = AdmitsClient peer o.change refl allowed
granted_by w event o (Begins asked undecided none allowed) = AdmitsSource asked o.change refl allowed
granted_by w event o (ComesUp mount shown unfed allowed) = AdmitsRelay mount shown o.change refl allowed
granted_by w event o (TakesSeat asked peer session undecided lands live allowed) = AdmitsListener asked peer session refl undecided lands live
granted_by w event o (HandsOut id room seat session sits has live) = HandsData id room seat session o.change refl sits has live
granted_by w event o (Shows _ asker peer text its undecided what) = TellsText text o.change (ByShowing asker peer its undecided what)
granted_by w event o (Obeys _ command c) = TellsText (said_of command (counts_by w command)) o.change (ByDoing command c refl)
granted_by w event o (Misplaced _) = GrantsNothing o refl (λ idle. refl)
granted_by w event o (IsFinished _ id rule its told) = GrantsNothing o refl (λ idle. refl)
granted_by w event o (IsDenied _ rule v nobody) = GrantsNothing o refl (λ idle. refl)
granted_by w event o (IsRefused _ id rule v its undecided) = GrantsNothing o refl (λ idle. cc)
granted_by w event o (Receives id mount block feeding) = GrantsNothing o refl (λ idle. cc)
granted_by w event o (SetsTitle id mount text feeding) = GrantsNothing o refl (λ idle. cc)
granted_by w event o (Ends id mount feeding no_relay) = GrantsNothing o refl (λ idle. cc)
granted_by w event o (EndsAndLeaves _ id mount closes feeding) = GrantsNothing o refl (λ idle. cc)
granted_by w event o (Leaves id no_relay other) = GrantsNothing o refl (λ idle. cc)
granted_by w event o (GoesDown id rule relay told) = GrantsNothing o refl (λ idle. cc)
granted_by w event o (HasPassed ms e) = GrantsNothing o refl (λ idle. refl)
granted_by w event o (Ticks ms e) = GrantsNothing o refl (λ idle. cc)

pub granted : (w : World) (event : Event) → Granted w event (outcome w event)
granted w event = granted_by w event (outcome w event) (way_of w event)
