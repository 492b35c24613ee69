-- what an outcome brings to sessions: blocks, titles, and sessions that begin
use Rattle.std.proofs.Common.{◌≡◌, ◌⊎◌, inl, inr, ℕ, ◌<◌, Some, None, List, [], refl, arith}
use Rattle.radio_laws.proofs.Words.{Peer, Session, session_of, without_session, Event, Push, Title, Noted, ReplyText, Done, Moved, Json, Public, Page, IsShort, Undecided, Feeds, World, standing_of, changed, Answer}
use Rattle.radio_laws.proofs.Words.{Receive, SetTitle, Outcome, IsCommanded, Closes, OfClient, OfRelay, obeys, block_in, of_client, says, IsShownBy, IsSound, outcome, Way, Misplaced, IsFinished, IsDenied, IsRefused}
use Rattle.radio_laws.proofs.Words.{IsAdmitted, Begins, ComesUp, Receives, SetsTitle, TakesSeat, HandsOut, Ends, EndsAndLeaves, Leaves, GoesDown, Obeys, Shows, HasPassed, Ticks, shown_long, nothing_of, was_live}
use Rattle.radio_laws.proofs.Words.{ticked_fates, way_of, title_of_event, set_by}
use Rattle.radio_events.specs.declared.command.Command.{Command as TheCommand}
use Rattle.radio_events.specs.declared.reply.Reply.TheVariants.{Text as SaysText}
use Rattle.radio_events.specs.declared.text.ReplyText.TheVariants.{Streams, Ended as ListenersEnded}
use Rattle.radio_laws.proofs.Streams.BegunLemmas.{source_begins, relay_begins}

-- what an outcome sets for the source of this number
abbrev pub sets : World → Event → Outcome → ℕ → List (List ℕ)
sets w event o id = set_by w event o.reply id

-- it has asked for nothing yet, or nobody has had this number
abbrev pub IsNewcomer : World → ℕ → Type 0
IsNewcomer w id = ((peer : Peer) × (standing_of w id ≡ Undecided peer)) ⊎ (w.station.last_id < id)

-- a session was live on some mount just as it is, or it is empty, and a newcomer feeds it
pub data IsOldOrEmpty (w : World) (session : Session) : Type 0 where
  IsOld : (mount : List ℕ) → session_of w.station.live mount ≡ Some session → IsOldOrEmpty w session
  IsEmpty : session.stream.bytes ≡ [] → session.title ≡ None → IsNewcomer w session.number → IsOldOrEmpty w session

-- a block or a title by a mount's source, or what a command does. Or neither data nor a title, and each session then is old or empty
pub data Brought (w : World) : Event → Outcome → Type 0 where
  BringsBlock : (id : ℕ) (mount block : List ℕ) → standing_of w id ≡ Feeds mount → Brought w (Push id block) (says Noted (Receive mount block))
  BringsTitle : (id : ℕ) (mount text : List ℕ) → standing_of w id ≡ Feeds mount → Brought w (Title id text) (says Noted (SetTitle mount text))
  ByCommand : (event : Event) (command : TheCommand) (c : IsCommanded w event command) → Brought w event (obeys w c.asked.id command)
  BringsNothing : (event : Event) (o : Outcome) → block_in o.change ≡ [] → ((id : ℕ) → sets w event o id ≡ [])
      → ((mount : List ℕ) (session : Session) → session_of (changed w o.change).station.live mount ≡ Some session → IsOldOrEmpty w session)
      → Brought w event o

module _ (w : World) (s : IsSound w) where
  as_it_was : (mount : List ℕ) (session : Session) → session_of w.station.live mount ≡ Some session → IsOldOrEmpty w session
  as_it_was mount session live = IsOld mount live

  -- the sessions that are live after another has ended
  left_over : (ended mount : List ℕ) (session : Session) → session_of (without_session w.station.live ended) mount ≡ Some session → IsOldOrEmpty w session
  left_over ended mount session live = IsOld mount (was_live w ended mount session live)

  untitled : (event : Event) (id : ℕ) → of_client {A = List ℕ} event id [] ≡ []
  untitled event id = nothing_of event id [] refl

  -- the closing of a connection sets no title
  closes_untitled : (him : ℕ) (event : Event) → Closes w him event → title_of_event event ≡ []
  closes_untitled him event (OfClient no_relay) = refl
  closes_untitled him event (OfRelay relay) = refl

  -- a listing or page that is shown sets none
  long_sets_none : (event : Event) (text : ReplyText) → (IsShort text → ⊥) → (asker id : ℕ) → sets w event (says (SaysText text) (Answer asker)) id ≡ []
  long_sets_none event Done long asker id = absurd (long tt)
  long_sets_none event (Moved count) long asker id = untitled event id
  long_sets_none event (ListenersEnded count) long asker id = untitled event id
  long_sets_none event (Json bytes) long asker id = untitled event id
  long_sets_none event (Streams bytes) long asker id = untitled event id
  long_sets_none event (Public bytes origin) long asker id = untitled event id
  long_sets_none event (Page origin) long asker id = untitled event id

  shown_sets_none : (event : Event) (text : ReplyText) → IsShownBy w event text → (asker id : ℕ) → sets w event (says (SaysText text) (Answer asker)) id ≡ []
  shown_sets_none event text what = long_sets_none event text (shown_long w event text what)

  brought_by : (event : Event) (o : Outcome) → Way w event o → Brought w event o
  brought_by event o (Receives him mount block feeding) = BringsBlock him mount block feeding
  brought_by event o (SetsTitle him mount text feeding) = BringsTitle him mount text feeding
  brought_by event o (Obeys _ command c) = ByCommand event command c
  brought_by event o (Begins asked undecided none allowed) =
      BringsNothing event o refl (untitled event)
      (source_begins w s (IsOldOrEmpty w) as_it_was asked undecided.0 undecided.1 none (IsEmpty refl refl (inl undecided)))
  brought_by event o (ComesUp mount shown none allowed) =
      BringsNothing event o refl (untitled event)
      (relay_begins w s (IsOldOrEmpty w) as_it_was mount shown none (IsEmpty refl refl (inr (omega arith))))
  brought_by event o (Ends him mount feeding no_relay) = BringsNothing event o refl (untitled event) (left_over mount)
  brought_by event o (EndsAndLeaves _ him mount closes feeding) =
      BringsNothing event o refl (λ id. nothing_of event id (title_of_event event) (closes_untitled him event closes)) (left_over mount)
  brought_by event o (Ticks ms e) =
      BringsNothing event o refl (untitled event) (λ mount session live. IsOld mount ((ticked_fates w s ms).live mount session live))
  brought_by event o (Shows _ asker peer text its undecided what) = BringsNothing event o refl (shown_sets_none event text what asker) as_it_was
  brought_by event o (HasPassed ms e) = BringsNothing event o refl (untitled event) as_it_was
  brought_by event o (Misplaced _) = BringsNothing event o refl (untitled event) as_it_was
  brought_by event o (IsFinished _ him rule its told) = BringsNothing event o refl (untitled event) as_it_was
  brought_by event o (IsDenied _ rule v nobody) = BringsNothing event o refl (untitled event) as_it_was
  brought_by event o (IsRefused _ him rule v its undecided) = BringsNothing event o refl (untitled event) as_it_was
  brought_by event o (IsAdmitted peer allowed) = BringsNothing event o refl (untitled event) as_it_was
  brought_by event o (TakesSeat asked peer session undecided lands live allowed) = BringsNothing event o refl (untitled event) as_it_was
  brought_by event o (HandsOut him room seat session sits has live) = BringsNothing event o refl (untitled event) as_it_was
  brought_by event o (Leaves him no_relay other) = BringsNothing event o refl (untitled event) as_it_was
  brought_by event o (GoesDown him rule relay told) = BringsNothing event o refl (untitled event) as_it_was

  pub brought : (event : Event) → Brought w event (outcome w event)
  brought event = brought_by event (outcome w event) (way_of w event)
