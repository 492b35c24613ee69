-- What a worker must do for a connection in a turn, and what it may not do to it.
use Rattle.std.specs.Prelude.{◌≡◌, ◌+◌, ◌<◌, ◌≤◌, ◌-◌, ◌⊎◌, ℕ, suc, Bool, true, false, List, [], ◌∷◌, ◌++◌, map}
use Rattle.radio_events.specs.declared.event.Event.{Event}
use Rattle.radio_events.specs.declared.event.Event.TheVariants.{Draw, Leave}
use Rattle.radio_events.specs.declared.reply.Reply.{Reply}
use Rattle.radio_events.specs.declared.entry.Entry.{Entry}
use Rattle.radio_events.specs.Events.{entry}
use Rattle.radio_session.specs.Hearing.{EventReading, IsHeard}
use Rattle.radio_connections.specs.declared.conn.Fate.{Fate}
use Rattle.radio_connections.specs.declared.conn.Fate.TheVariants.{Open, Ended, Closed, Cut}
use Rattle.radio_connections.specs.Connections.{Connection}
use Rattle.radio_connections.specs.Rooms.{draw_room}

-- what is pending is still written
abbrev pub IsWritten : Fate → Type 0
IsWritten Cut = ⊥
IsWritten Closed = ⊥
IsWritten fate = Unit {0}

-- something is pending on it
abbrev pub IsOwed : Connection → Type 0
IsOwed c = c.outgoing ≡ [] → ⊥

-- The calls of a line are counted on, and what it takes comes behind what it took.
pub record IsLater (c c' : Connection) : Type 0 where
  pub reads : c.calls.reads ≤ c'.calls.reads
  pub writes : c.calls.writes ≤ c'.calls.writes
  pub faults : c.calls.faults ≤ c'.calls.faults
  pub closings : c.calls.closings ≤ c'.calls.closings
  pub refused : c.refused.events ≤ c'.refused.events
  pub leavings : c.refused.leavings ≤ c'.refused.leavings
  pub taken : (more : List ℕ) × (c'.taken ≡ c.taken ++ more)

-- it is not read from
pub record LineIsUnread (c c' : Connection) : Type 0 where
  pub reads : c'.calls.reads ≡ c.calls.reads
  pub room : c'.calls.room ≡ c.calls.room

-- it is read from once, with room for 16384 bytes
pub record IsReadOnce (c c' : Connection) : Type 0 where
  pub reads : c'.calls.reads ≡ suc c.calls.reads
  pub room : c'.calls.room ≡ c.calls.room + 16384

-- One that is open, and on which nothing is pending, is asked for bytes, once.
-- rule: Reading; Unwanted bytes
abbrev pub LineIsAsked : Connection → Connection → Type 0
LineIsAsked c c' = c.status.fate ≡ Open → c.outgoing ≡ [] → IsReadOnce c c'

-- No connection is asked more often than once in a turn.
-- rule: Reading
abbrev pub IsAskedOnce : Connection → Connection → Type 0
IsAskedOnce c c' = LineIsUnread c c' ⊎ IsReadOnce c c'

-- One on which something is pending is written to.
-- rule: Pending bytes first
abbrev pub LineIsGiven : Connection → Connection → Type 0
LineIsGiven c c' = IsWritten c.status.fate → IsOwed c → c.calls.writes < c'.calls.writes

-- its line has taken all that was pending, and perhaps more
abbrev pub HasTakenAll : Connection → Connection → Type 0
HasTakenAll c c' = (more : List ℕ) × (c'.taken ≡ (c.taken ++ c.outgoing) ++ more)

-- nothing, or its leaving
abbrev pub IsAtMostLeaving : ℕ → List Entry → Type 0
IsAtMostLeaving id entries = (entries ≡ []) ⊎ ((reply : Reply) × (entries ≡ entry (Leave id) reply ∷ []))

-- Unless its line has taken all that was pending, it is not read from, and nothing is applied for it but that its client leaves.
-- rule: Pending bytes first
abbrev pub HasWaited : Connection → List Entry → Connection → Type 0
HasWaited c entries c' = HasTakenAll c c' ⊎ (LineIsUnread c c' × IsAtMostLeaving c.id entries)

-- at this moment, nothing of what is pending has moved for so long
-- rule: Cut off
abbrev pub HasStalled : ℕ → ℕ → Connection → Type 0
HasStalled ms patience c = patience ≤ ms - c.status.moved_ms

-- The line of a connection that is still served has taken all that was pending, or something of it has moved within this time.
-- One that has stalled is cut off.
-- rule: Cut off
abbrev pub LineIsInTime : ℕ → ℕ → Connection → Connection → Type 0
LineIsInTime ms patience c c' = IsWritten c'.status.fate → HasTakenAll c c' ⊎ (ms - c'.status.moved_ms < patience)

-- its line has taken something
abbrev pub HasTakenSome : Connection → Connection → Type 0
HasTakenSome c c' = c'.taken ≡ c.taken → ⊥

-- it goes on, and nothing is pending on it
abbrev pub IsIdle : Connection → Type 0
IsIdle c = (c.status.fate ≡ Open) × (c.outgoing ≡ [])

-- the peer learns that nothing more is written
abbrev pub IsFinishedNow : Connection → Connection → Type 0
IsFinishedNow c c' = (c.status.is_finished ≡ false) × (c'.status.is_finished ≡ true)

-- The patience counts from the last turn in which one of these holds: the line took something, nothing was pending when the turn
-- came, or the connection was closed for writing. Then the moment is that of the turn,
-- rule: Cut off
abbrev pub HasMoved : ℕ → Connection → Connection → Type 0
HasMoved ms c c' = HasTakenSome c c' ⊎ (IsIdle c ⊎ IsFinishedNow c c') → c'.status.moved_ms ≡ ms

-- and else it stays as it was.
-- rule: Cut off
abbrev pub HasNotMoved : Connection → Connection → Type 0
HasNotMoved c c' = c'.taken ≡ c.taken → (IsIdle c → ⊥) → (IsFinishedNow c c' → ⊥) → c'.status.moved_ms ≡ c.status.moved_ms

-- If its line has taken something, that is noted. If it has taken nothing, the note stays as it was.
-- rule: Cut off
pub record NotesTaking (c c' : Connection) : Type 0 where
  pub some : HasTakenSome c c' → c'.status.has_taken ≡ true
  pub none : c'.taken ≡ c.taken → c'.status.has_taken ≡ c.status.has_taken

-- memory was refused for what was to be done for it: its session has failed, or one of its events was refused
-- rule: Cut off; Connection without memory
abbrev pub LacksMemory : Connection → Connection → Type 0
LacksMemory c c' = (c'.session.has_failed ≡ true) ⊎ (c.refused.events < c'.refused.events)

-- why a connection may be cut off in a turn
-- rule: Cut off
pub data WhyCut (ms patience : ℕ) (c c' : Connection) : Type 0 where
  -- it was cut off before
  WasCut : c.status.fate ≡ Cut → WhyCut ms patience c c'
  -- its line failed
  HasFailed : c.calls.faults < c'.calls.faults → WhyCut ms patience c c'
  -- something is pending on it, and its line took nothing for too long
  TookNothing : IsOwed c' → HasStalled ms patience c' → WhyCut ms patience c c'
  -- it was open, and memory was refused
  WasRefused : c.status.fate ≡ Open → LacksMemory c c' → WhyCut ms patience c c'

-- It is cut off only for such a cause.
-- rule: Cut off
abbrev pub IsCutFor : ℕ → ℕ → Connection → Connection → Type 0
IsCutFor ms patience c c' = c'.status.fate ≡ Cut → WhyCut ms patience c c'

-- its line reported that its peer has closed, or failed
abbrev pub HasEnded : Connection → Connection → Type 0
HasEnded c c' = (c.calls.closings < c'.calls.closings) ⊎ (c.calls.faults < c'.calls.faults)

-- it had ended, and a second has passed since it was closed for writing
pub record HasLingered (ms : ℕ) (c : Connection) : Type 0 where
  pub ended : c.status.fate ≡ Ended
  pub finished : c.status.is_finished ≡ true
  pub long : 1000 ≤ ms - c.status.moved_ms

-- why a connection may be closed in a turn
-- rule: Lingering; Closed by the peer
pub data WhyClosed (ms : ℕ) (c c' : Connection) : Type 0 where
  -- it was closed before
  WasClosed : c.status.fate ≡ Closed → WhyClosed ms c c'
  -- its line reported that its peer has closed, or failed
  LineHasEnded : HasEnded c c' → WhyClosed ms c c'
  -- it had ended, and nothing was ever written to it
  NothingWritten : c.status.fate ≡ Ended → c'.status.has_taken ≡ false → WhyClosed ms c c'
  -- it had ended, and has lingered for a second
  LingeredOn : HasLingered ms c → WhyClosed ms c c'

-- A connection is closed only for such a cause.
-- rule: Lingering
abbrev pub IsClosedFor : ℕ → Connection → Connection → Type 0
IsClosedFor ms c c' = c'.status.fate ≡ Closed → WhyClosed ms c c'

-- A lingering connection: something was written on it, it was closed for writing, and its line was read and reported no end. Less
-- than a second has passed since then.
-- rule: Lingering
pub record Lingers (ms : ℕ) (c c' : Connection) : Type 0 where
  pub written : c'.status.has_taken ≡ true
  pub finished : c'.status.is_finished ≡ true
  pub read : IsReadOnce c c'
  pub goes : HasEnded c c' → ⊥
  pub in_time : ms - c'.status.moved_ms < 1000

-- One that had ended and on which nothing is pending lingers, or is closed.
-- rule: Lingering
abbrev pub IsLetGo : ℕ → Connection → Connection → Type 0
IsLetGo ms c c' = c.status.fate ≡ Ended → c'.status.fate ≡ Ended → c'.outgoing ≡ [] → Lingers ms c c'

-- Only one that has ended, and whose line has taken all, is closed for writing.
-- rule: Lingering
abbrev pub IsFinishedFor : Connection → Connection → Type 0
IsFinishedFor c c' = IsFinishedNow c c' → (c.status.fate ≡ Ended) × HasTakenAll c c'

-- A client whose connection is over has left, or its `Leave` was refused for want of memory.
-- rule: Lingering
abbrev pub ClientHasLeft : Connection → Connection → Type 0
ClientHasLeft c c' = (c'.status.fate ≡ Open → ⊥) → (c'.status.has_left ≡ true) ⊎ (c.refused.leavings < c'.refused.leavings)

-- the events that were applied
abbrev pub events_of : List Entry → List Event
events_of entries = map (λ (e : Entry). e.event) entries

-- these entries are of the first of those events, in their order
abbrev pub AreFirstOf : List Entry → List Event → Type 0
AreFirstOf entries events = (later : List Event) × (events ≡ events_of entries ++ later)

-- they are of the first events that the bytes mean that its line gave
pub record AreHeard (c : Connection) (entries : List Entry) (c' : Connection) : Type 0 where
  pub bytes : List ℕ
  pub heard : EventReading
  pub given : c'.given ≡ c.given ++ bytes
  pub is : IsHeard c.session bytes heard
  pub first : AreFirstOf entries heard.events

-- nothing, or what was read
abbrev pub AreAtMostHeard : Connection → List Entry → Connection → Type 0
AreAtMostHeard c entries c' = (entries ≡ []) ⊎ AreHeard c entries c'

-- the room of a draw, for a client with a seat and for one without
abbrev pub draw_room_for : Bool → ℕ
draw_room_for true = draw_room
draw_room_for false = 0

-- nothing, or one draw with this room
abbrev pub IsAtMostDraw : ℕ → ℕ → List Entry → Type 0
IsAtMostDraw id room entries = (entries ≡ []) ⊎ ((reply : Reply) × (entries ≡ entry (Draw id room) reply ∷ []))

-- What is applied for it in a turn: the events that its bytes mean, behind them at most one draw, and behind that at most its leaving.
-- rule: Reading; Drawing
pub record IsOneTurn (c : Connection) (entries : List Entry) (c' : Connection) : Type 0 where
  pub heard : List Entry
  pub drawn : List Entry
  pub left : List Entry
  pub all : entries ≡ heard ++ (drawn ++ left)
  pub asks : AreAtMostHeard c heard c'
  pub draws : IsAtMostDraw c.id (draw_room_for c'.status.sits) drawn
  pub leaves : IsAtMostLeaving c.id left

-- nothing was asked of the server for it for half a second
abbrev pub IsUnasked : ℕ → Connection → Type 0
IsUnasked ms c = 500 ≤ ms - c.status.asked_ms

-- For one that goes on, on which nothing was pending and for which nothing was asked for so long, something is
-- asked.
-- rule: Finishes are silent; Drawing
abbrev pub IsAskedFor : ℕ → Connection → List Entry → Connection → Type 0
IsAskedFor ms c entries c' = c.outgoing ≡ [] → c'.status.fate ≡ Open → IsUnasked ms c → entries ≡ [] → ⊥

-- When something was last asked for it is noted, as long as it goes on.
-- rule: Drawing
pub record NotesAsking (ms : ℕ) (c : Connection) (entries : List Entry) (c' : Connection) : Type 0 where
  pub some : c'.status.fate ≡ Open → (entries ≡ [] → ⊥) → c'.status.asked_ms ≡ ms
  pub none : c'.status.fate ≡ Open → entries ≡ [] → c'.status.asked_ms ≡ c.status.asked_ms
