-- The ways in which an event can end.
use Rattle.std.specs.Prelude.{◌≡◌, ℕ, ◌+◌, nat_lt, true, false, length, List, [], Some, None}
use Rattle.radio_values.specs.declared.field.Shown.{Shown}
use Rattle.radio_policy.specs.declared.rule.Rule.{Rule}
use Rattle.radio_policy.specs.declared.judgement.Verdict.TheVariants.{Allow, Deny as Denied}
use Rattle.radio_policy.specs.Table.{Row}
use Rattle.radio_policy.specs.Verdicts.{verdict_in}
use Rattle.radio_addr.specs.declared.peer.Peer.{Peer}
use Rattle.radio_events.specs.declared.event.SourceRequest.{SourceRequest}
use Rattle.radio_events.specs.declared.event.ListenRequest.{ListenRequest}
use Rattle.radio_events.specs.declared.event.Event.{Event}
use Rattle.radio_events.specs.declared.event.Event.TheVariants.{Arrive, Source, Push, SourceEnd, Title, Listen, Draw, Command, Leave, RelayUp, RelayDown, Clock}
use Rattle.radio_parts_station.specs.StationState.{StationState}
use Rattle.radio_parts_changes.specs.declared.change.Change.TheVariants.{Nothing, Answer, Admit, Receive, SetTitle, TakeSeat, Advance, End, EndAndLeave, Forget, Tick}
use Rattle.radio_parts.specs.declared.outcome.Outcome.{Outcome}
use Rattle.radio_events.specs.declared.reply.Reply.TheVariants.{Arrived, Seated, Drawn, Noted, Text as SaysText, Deny, Finished, Stray}
use Rattle.radio_seats_rows.specs.declared.seat.Seat.{Seat}
use Rattle.radio_parts_station.specs.declared.standing.Standing.{Standing}
use Rattle.radio_parts_station.specs.declared.standing.Standing.TheVariants.{Undecided, Feeds, Sits, Finished as HasFinished}
use Rattle.radio_fallback.specs.declared.walking.Landing.TheVariants.{Lands}
use Rattle.radio_events.specs.declared.command.Command.{Command as TheCommand}
use Rattle.radio_parts.specs.Closing.{Closes}
use Rattle.radio_parts.specs.Command.{obeys}
use Rattle.radio_parts.specs.Allowed.{IsCommanded}
use Rattle.radio_parts_facts.specs.CommandFacts.{rows_to_command}
use Rattle.radio_parts_station.specs.Facts.{rows_to_arrive, rows_to_feed, rows_to_raise, rows_to_push, rows_to_listen, walks_to}
use Rattle.radio_parts.specs.Listen.{first_seat}
use Rattle.radio_parts_facts.specs.Streams.{interval_for, head_of}
use Rattle.radio_parts.specs.Pages.{IsShownBy}
use Rattle.radio_events.specs.declared.text.ReplyText.{ReplyText}
use Rattle.radio_parts.specs.Outcomes.{says}
use Rattle.radio_parts.specs.RelayUp.{raises}
use Rattle.radio_seats_rows.specs.Seats.{seat_of}
use Rattle.radio_parts_mount.specs.Sessions.{Session, session_of}
use Rattle.radio_parts.specs.Source.{begins}
use Rattle.radio_parts_mount.specs.Stream.{data_at}
use Rattle.radio_parts_station.specs.World.{World, standing_of, has_relay}
use Rattle.radio_events.specs.Events.{client_in}
use Rattle.radio_parts_station.specs.Waiting.{heard_at}

-- the client has asked for nothing yet
abbrev pub IsUndecided : World → ℕ → Type 0
IsUndecided w id = (peer : Peer) × (standing_of w id ≡ Undecided peer)

-- the policy's rows for a block of a client of this standing
abbrev pub rows_from : StationState → List ℕ → Standing → List Row
rows_from station block (Feeds mount) = rows_to_push station mount block
rows_from station block standing = []

-- the policy's rows for what the event asks for, in this state
abbrev pub rows_for : World → Event → List Row
rows_for w (Arrive peer) = rows_to_arrive w.station peer
rows_for w (Source asked) = rows_to_feed w.station asked
rows_for w (Push id block) = rows_from w.station block (standing_of w id)
rows_for w (Listen asked) = rows_to_listen w asked
rows_for w (Command asked) = rows_to_command w asked
rows_for w (RelayUp mount shown) = rows_to_raise w.station mount shown
rows_for w event = []

pub data Way (w : World) : Event → Outcome → Type 0 where
  -- it is out of place
  Misplaced : (event : Event) → Way w event (says Stray Nothing)
  -- its client has finished, and the reply names the rule
  IsFinished : (event : Event) (id : ℕ) (rule : Rule) → client_in event ≡ Some id → standing_of w id ≡ HasFinished rule
      → Way w event (says (Finished rule) Nothing)
  -- the policy denies it to a client that did not ask for a mount
  IsDenied : (event : Event) (rule : Rule) → verdict_in (rows_for w event) ≡ Denied rule → ((id : ℕ) → client_in event ≡ Some id → IsUndecided w id → ⊥)
      → Way w event (says (Deny rule) Nothing)
  -- the policy denies a client what it asks for, and it has had its answer
  IsRefused : (event : Event) (id : ℕ) (rule : Rule) → verdict_in (rows_for w event) ≡ Denied rule → client_in event ≡ Some id → IsUndecided w id
      → Way w event (says (Deny rule) (Answer id))
  IsAdmitted : (peer : Peer) → verdict_in (rows_to_arrive w.station peer) ≡ Allow
      → Way w (Arrive peer) (says (Arrived (w.station.last_id + 1)) (Admit (w.station.last_id + 1) peer))
  Begins : (asked : SourceRequest) → IsUndecided w asked.id → (session_of w.station.live asked.mount ≡ None)
      → verdict_in (rows_to_feed w.station asked) ≡ Allow → Way w (Source asked) (begins w.station asked)
  ComesUp : (mount : List ℕ) (shown : Shown) → (session_of w.station.live mount ≡ None) → verdict_in (rows_to_raise w.station mount shown) ≡ Allow
      → Way w (RelayUp mount shown) (raises w.station mount shown)
  Receives : (id : ℕ) (mount block : List ℕ) → standing_of w id ≡ Feeds mount → Way w (Push id block) (says Noted (Receive mount block))
  SetsTitle : (id : ℕ) (mount text : List ℕ) → standing_of w id ≡ Feeds mount → Way w (Title id text) (says Noted (SetTitle mount text))
  TakesSeat : (asked : ListenRequest) (peer : Peer) (session : Session) → standing_of w asked.id ≡ Undecided peer
      → walks_to w.station w.seats asked.mount asked.pair ≡ Lands session.mount → heard_at w.station session.mount ≡ Some session
      → verdict_in (rows_to_listen w asked) ≡ Allow → Way w (Listen asked)
      (says (Seated (interval_for w.station asked.mount asked.wants_metadata) (head_of w.station session.shown)) (TakeSeat asked.id (first_seat w.station asked peer session)))
  HandsOut : (id room : ℕ) (seat : Seat) (session : Session) → standing_of w id ≡ Sits → seat_of w.seats id ≡ Some seat
      → heard_at w.station seat.mount ≡ Some session → Way w (Draw id room)
      (says (Drawn (data_at session.stream seat.place room) session.title) (Advance id (seat.place + length (data_at session.stream seat.place room))))
  Ends : (id : ℕ) (mount : List ℕ) → standing_of w id ≡ Feeds mount → has_relay w id ≡ false → Way w (SourceEnd id) (says Noted (End id mount))
  EndsAndLeaves : (event : Event) (id : ℕ) (mount : List ℕ) → Closes w id event → standing_of w id ≡ Feeds mount
      → Way w event (says Noted (EndAndLeave id mount))
  Leaves : (id : ℕ) → has_relay w id ≡ false → ((mount : List ℕ) → standing_of w id ≡ Feeds mount → ⊥) → Way w (Leave id) (says Noted (Forget id))
  GoesDown : (id : ℕ) (rule : Rule) → has_relay w id ≡ true → standing_of w id ≡ HasFinished rule → Way w (RelayDown id) (says Noted (Forget id))
  Obeys : (event : Event) (command : TheCommand) (c : IsCommanded w event command) → Way w event (obeys w c.asked.id command)
  Shows : (event : Event) (id : ℕ) (peer : Peer) (text : ReplyText) → client_in event ≡ Some id → standing_of w id ≡ Undecided peer → IsShownBy w event text
      → Way w event (says (SaysText text) (Answer id))
  HasPassed : (ms : ℕ) → nat_lt ms w.station.time ≡ true → Way w (Clock ms) (says Noted Nothing)
  Ticks : (ms : ℕ) → nat_lt ms w.station.time ≡ false → Way w (Clock ms) (says Noted (Tick ms))
