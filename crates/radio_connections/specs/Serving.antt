-- A connection's part of a worker's turn.
use Rattle.std.specs.Prelude.{◌≡◌, ℕ, Bool, true, List, [], ◌∷◌, ◌++◌}
use Rattle.radio_events.specs.declared.event.Event.{Event}
use Rattle.radio_events.specs.declared.event.Event.TheVariants.{Draw}
use Rattle.radio_events.specs.declared.reply.Reply.{Reply}
use Rattle.radio_events.specs.declared.entry.Entry.{Entry}
use Rattle.radio_events.specs.Events.{entry}
use Rattle.radio_events.specs.Servers.{Steps, Chain}
use Rattle.radio_connections.specs.declared.conn.Fate.{Fate}
use Rattle.radio_connections.specs.declared.conn.Fate.TheVariants.{Open, Closed, Cut}
use Rattle.radio_connections.specs.Connections.{Connection}
use Rattle.radio_connections.specs.Course.{Arrival, Standing, Course}
use Rattle.radio_connections.specs.Duties.{IsLater, LineIsAsked, IsAskedOnce, LineIsGiven, HasWaited, IsCutFor, LineIsInTime, HasMoved, HasNotMoved, NotesTaking, IsClosedFor}
use Rattle.radio_connections.specs.Duties.{IsLetGo, IsFinishedFor, ClientHasLeft, IsOneTurn, IsAskedFor, NotesAsking}
use Rattle.radio_connections.specs.Rooms.{draw_room}

-- What the line took, followed by what is pending, is what was written for it. Once it is closed, it took all; if it was cut off, the
-- front.
-- rule: Reading
abbrev pub IsHanded : Fate → List ℕ → List ℕ → List ℕ → Type 0
IsHanded Cut text taken outgoing = (lost : List ℕ) × (text ≡ taken ++ lost)
IsHanded Closed text taken outgoing = text ≡ taken
IsHanded fate text taken outgoing = text ≡ taken ++ outgoing

-- The connection is in a sound state if it came so, these entries were made for it, and these events are still to be applied.
-- There is a course of its client by which its line gave what it gave, and was given what was written.
pub record StandsBefore (arrival : Arrival) (pending : List Event) (c : Connection) (entries : List Entry) : Type 0 where
  pub standing : Standing
  pub course : Course arrival c.id standing
  pub same_given : standing.given ≡ c.given
  pub same_entries : standing.entries ≡ entries
  pub same_pending : standing.pending ≡ pending
  pub same_sits : standing.sits ≡ c.status.sits
  pub same_fate : standing.fate ≡ c.status.fate
  pub same_left : standing.has_left ≡ c.status.has_left
  pub same_session : c.status.fate ≡ Open → standing.session ≡ c.session
  pub handed : IsHanded c.status.fate standing.text c.taken c.outgoing

-- and nothing is still to be applied
-- rule: Reading
abbrev pub Stands : Arrival → Connection → List Entry → Type 0
Stands arrival c entries = StandsBefore arrival [] c entries

-- These entries were made for the connection: however it came, and whatever was made for it before, it is sound with
-- both.
-- rule: Reading
pub record IsServed (c : Connection) (entries : List Entry) (c' : Connection) : Type 0 where
  pub same : c'.id ≡ c.id
  pub stands : (arrival : Arrival) (past : List Entry) → Stands arrival c past → Stands arrival c' (past ++ entries)
  pub later : IsLater c c'

-- if the connection goes on, its one entry is this draw
abbrev pub IsOneDraw : ℕ → ℕ → List Entry → Connection → Type 0
IsOneDraw id room entries c' = c'.status.fate ≡ Open → (reply : Reply) × (entries ≡ entry (Draw id room) reply ∷ [])

-- the last of these entries is a draw with the room of a turn
abbrev pub EndsWithDraw : ℕ → List Entry → Type 0
EndsWithDraw id entries = (others : List Entry) × (reply : Reply) × (entries ≡ others ++ entry (Draw id draw_room) reply ∷ [])

-- If there is news, a connection that has a seat and goes on has drawn, as the last thing. This holds if nothing was pending when
-- its turn came.
-- rule: Drawing
abbrev pub HasDrawn : Bool → Connection → List Entry → Connection → Type 0
HasDrawn news c entries c' = news ≡ true → c.outgoing ≡ [] → c'.status.fate ≡ Open → c'.status.sits ≡ true → EndsWithDraw c.id entries

module _ {S : Type 0} (steps : Steps S) where
  -- At this moment, with news or without, the server made entries for the connection: a draw if it was due, and what else there was to do.
  pub record ServesInTurn (ms patience : ℕ) (news : Bool) (from : S) (c : Connection) (to : S) (c' : Connection) : Type 0 where
    pub entries : List Entry
    pub chain : Chain steps from entries to
    pub served : IsServed c entries c'
    pub drawn : HasDrawn news c entries c'
    pub asked : LineIsAsked c c'
    pub once : IsAskedOnce c c'
    pub given : LineIsGiven c c'
    pub waited : HasWaited c entries c'
    pub cut : IsCutFor ms patience c c'
    pub in_time : LineIsInTime ms patience c c'
    pub moved : HasMoved ms c c'
    pub unmoved : HasNotMoved c c'
    pub taking : NotesTaking c c'
    pub closed : IsClosedFor ms c c'
    pub let_go : IsLetGo ms c c'
    pub finished : IsFinishedFor c c'
    pub left : ClientHasLeft c c'
    pub one : IsOneTurn c entries c'
    pub asked_for : IsAskedFor ms c entries c'
    pub asking : NotesAsking ms c entries c'
