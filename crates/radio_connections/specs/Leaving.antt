-- What each part of a connection's turn leaves of it.
use Rattle.std.specs.Prelude.{◌≡◌, ◌<◌, ◌-◌, ◌⊎◌, ℕ, Bool, true, false, List, [], ◌∷◌, ◌++◌}
use Rattle.radio_events.specs.declared.event.Event.TheVariants.{Draw, Leave}
use Rattle.radio_events.specs.declared.reply.Reply.{Reply}
use Rattle.radio_events.specs.Events.{entry}
use Rattle.radio_events.specs.declared.entry.Entry.{Entry}
use Rattle.radio_events.specs.Servers.{Steps, Chain}
use Rattle.radio_connections.specs.declared.conn.Fate.TheVariants.{Open, Ended, Closed, Cut}
use Rattle.radio_connections.specs.declared.line.Received.{Received}
use Rattle.radio_connections.specs.declared.line.Received.TheVariants.{Bytes, Nothing, Closed as HasClosed, Fault}
use Rattle.radio_connections.specs.Lines.{Calls}
use Rattle.radio_connections.specs.Connections.{Connection, Refused, is_open, one_refusal}
use Rattle.radio_connections.specs.Duties.{IsWritten, LineIsUnread, IsReadOnce, IsAskedOnce, LineIsGiven, IsAtMostLeaving, HasStalled, HasTakenSome, IsFinishedNow}
use Rattle.radio_connections.specs.Duties.{LacksMemory, HasEnded, WhyClosed, Lingers, ClientHasLeft, AreAtMostHeard, draw_room_for, IsAtMostDraw, IsUnasked, NotesAsking}
use Rattle.radio_connections.specs.Rooms.{draw_room, fills_room}
use Rattle.radio_connections.specs.Answering.{IsSpared, IsUnwritten}
use Rattle.radio_connections.specs.Serving.{IsServed, IsOneDraw, HasDrawn}

-- its number, what its line gave and took, what is pending, and its session
pub record IsSame (c c' : Connection) : Type 0 where
  pub id : c'.id ≡ c.id
  pub given : c'.given ≡ c.given
  pub taken : c'.taken ≡ c.taken
  pub outgoing : c'.outgoing ≡ c.outgoing
  pub session : c'.session ≡ c.session

-- it was cut off before, or its line has failed
abbrev pub IsCutByFault : Connection → Connection → Type 0
IsCutByFault c c' = c'.status.fate ≡ Cut → (c.status.fate ≡ Cut) ⊎ (c.calls.faults < c'.calls.faults)

-- What is noted of a write at this moment. If the line took nothing, nothing is noted. Else it is noted that the line took
-- something, and when.
pub data WriteIsNoted (ms : ℕ) (c c' : Connection) : Type 0 where
  TookNone : c'.taken ≡ c.taken → c'.status ≡ record c.status { fate = c'.status.fate } → WriteIsNoted ms c c'
  TookSome : HasTakenSome c c' → IsWritten c.status.fate → c'.status ≡ record c.status { moved_ms = ms; has_taken = true } → WriteIsNoted ms c c'

-- at this moment it was written to: it goes on only if it did before, and nothing new is pending
pub record IsFlushed (ms : ℕ) (c c' : Connection) : Type 0 where
  pub served : IsServed c [] c'
  pub goes : c'.status.fate ≡ Open → c.status.fate ≡ Open
  pub sits : c'.status.sits ≡ c.status.sits
  pub none : c.outgoing ≡ [] → c'.outgoing ≡ []
  pub all : c'.outgoing ≡ [] → c'.taken ≡ c.taken ++ c.outgoing
  pub idle : c.outgoing ≡ [] → c'.status.fate ≡ c.status.fate
  pub unread : LineIsUnread c c'
  pub session : c'.session ≡ c.session
  pub given : LineIsGiven c c'
  pub cut : IsCutByFault c c'
  pub fate : (c'.status.fate ≡ Cut → ⊥) → c'.status.fate ≡ c.status.fate
  pub noted : WriteIsNoted ms c c'
  pub given_same : c'.given ≡ c.given
  pub closings : c'.calls.closings ≡ c.calls.closings
  pub faults : (c'.status.fate ≡ Cut → ⊥) → c'.calls.faults ≡ c.calls.faults

-- it was given up, if nothing of what is pending has moved for too long
pub record IsPatient (ms patience : ℕ) (c c' : Connection) : Type 0 where
  pub served : IsServed c [] c'
  pub goes : c'.status.fate ≡ Open → c.status.fate ≡ Open
  pub unread : LineIsUnread c c'
  pub cut : c'.status.fate ≡ Cut → (c.status.fate ≡ Cut) ⊎ HasStalled ms patience c
  pub closed : c'.status.fate ≡ Closed → c.status.fate ≡ Closed
  pub in_time : IsWritten c'.status.fate → ms - c.status.moved_ms < patience
  pub noted : c'.status ≡ record c.status { is_behind = c'.status.is_behind; fate = c'.status.fate }
  pub taken : c'.taken ≡ c.taken
  pub outgoing : c'.outgoing ≡ c.outgoing

-- by this answer to a read, its line has ended, or has not
abbrev pub HasAnswered : Received → Calls → Calls → Type 0
HasAnswered (Bytes n) before after = (after.closings ≡ before.closings) × (after.faults ≡ before.faults)
HasAnswered Nothing before after = (after.closings ≡ before.closings) × (after.faults ≡ before.faults)
HasAnswered HasClosed before after = before.closings < after.closings
HasAnswered Fault before after = before.faults < after.faults

-- whether nothing more will come, or it has lingered for a second
abbrev pub is_over : Received → Bool → Bool
is_over (Bytes n) is_long = is_long
is_over Nothing is_long = is_long
is_over HasClosed is_long = true
is_over Fault is_long = true

-- it is noted that it was closed for writing, and when, or nothing
abbrev pub NotesFinish : ℕ → Connection → Connection → Type 0
NotesFinish ms c c' =
    ((c'.status.is_finished ≡ c.status.is_finished) × (c'.status.moved_ms ≡ c.status.moved_ms)) ⊎ (IsFinishedNow c c' × (c'.status.moved_ms ≡ ms))

-- it had ended, and has not begun again, nor is it cut off; it is closed only for a cause, and lingers otherwise
pub record StaysEnded (ms : ℕ) (c c' : Connection) : Type 0 where
  pub served : IsServed c [] c'
  pub over : is_open c'.status.fate ≡ false
  pub whole : c'.status.fate ≡ Cut → ⊥
  pub once : IsAskedOnce c c'
  pub taken : c'.taken ≡ c.taken
  pub has_taken : c'.status.has_taken ≡ c.status.has_taken
  pub noted : NotesFinish ms c c'
  pub closed : c'.status.fate ≡ Closed → WhyClosed ms c c'
  pub lingers : c'.status.fate ≡ Ended → Lingers ms c c'

-- after a draw with this room, it is noted whether the reply was as long as a listener has room for, so that there may be more
abbrev pub NotesMore : ℕ → ℕ → List Entry → Connection → Type 0
NotesMore id room entries c' = (reply : Reply) → entries ≡ entry (Draw id room) reply ∷ [] → c'.status.is_behind ≡ fills_room reply

-- its line was not called; it is as before, or is not closed, and cut off only if memory was refused
abbrev pub IsSparedBefore : Connection → Connection → Type 0
IsSparedBefore c c' = (c' ≡ c) ⊎ IsSpared c c'

module _ {S : Type 0} (steps : Steps S) where
  -- at this moment it was read from, and what it asked was applied
  pub record Listens (ms : ℕ) (from : S) (c : Connection) (to : S) (c' : Connection) : Type 0 where
    pub entries : List Entry
    pub chain : Chain steps from entries to
    pub served : IsServed c entries c'
    pub read : IsReadOnce c c'
    pub cut : c'.status.fate ≡ Cut → LacksMemory c c'
    pub closed : c'.status.fate ≡ Closed → HasEnded c c'
    pub heard : AreAtMostHeard c entries c'
    pub asking : NotesAsking ms c entries c'
    pub unwritten : IsUnwritten c c'

  -- the work of a connection on which nothing is pending
  pub record Works (ms : ℕ) (news : Bool) (from : S) (c : Connection) (to : S) (c' : Connection) : Type 0 where
    pub entries : List Entry
    pub chain : Chain steps from entries to
    pub served : IsServed c entries c'
    pub drawn : HasDrawn news c entries c'
    pub asked : c.status.fate ≡ Open → IsReadOnce c c'
    pub once : IsAskedOnce c c'
    pub cut : c'.status.fate ≡ Cut → (c.status.fate ≡ Cut) ⊎ ((c.status.fate ≡ Open) × LacksMemory c c')
    pub closed : c'.status.fate ≡ Closed → WhyClosed ms c c'
    pub lingers : c'.status.fate ≡ Ended → (c.status.fate ≡ Open) ⊎ ((c.status.fate ≡ Ended) × Lingers ms c c')
    pub taken : c'.taken ≡ c.taken
    pub has_taken : c'.status.has_taken ≡ c.status.has_taken
    -- the moment of one that is open is this, and another's is as it was, unless it is closed for writing now
    pub idle : c.status.fate ≡ Open → (c'.status.moved_ms ≡ ms) × (c'.status.is_finished ≡ c.status.is_finished)
    pub over : (c.status.fate ≡ Open → ⊥) → NotesFinish ms c c'
    pub finished : IsFinishedNow c c' → c.status.fate ≡ Ended
    -- what was read, and then a draw
    pub heard : List Entry
    pub draws : List Entry
    pub all : entries ≡ heard ++ draws
    pub asks : AreAtMostHeard c heard c'
    pub draws_once : IsAtMostDraw c.id (draw_room_for c'.status.sits) draws
    pub asked_for : c'.status.fate ≡ Open → IsUnasked ms c → entries ≡ [] → ⊥
    pub asking : NotesAsking ms c entries c'

  -- the leaving of this client was applied, or refused for want of memory and counted so
  abbrev pub HasAskedToLeave : Bool → ℕ → S → Refused → S → Refused → Type 0
  HasAskedToLeave true id from refused to refused' = ((reply : Reply) × steps from (Leave id) reply to) × (refused' ≡ refused)
  HasAskedToLeave false id from refused to refused' = (to ≡ from) × (refused' ≡ one_refusal (Leave id) refused)

  -- its client has left, if it is over
  pub record Leaves (from : S) (c : Connection) (to : S) (c' : Connection) : Type 0 where
    pub entries : List Entry
    pub chain : Chain steps from entries to
    pub served : IsServed c entries c'
    pub alone : c.status.fate ≡ Open → entries ≡ []
    pub leaving : IsAtMostLeaving c.id entries
    -- a client that has left does not leave again, and after a `Leave` it has left
    pub again : c.status.has_left ≡ true → entries ≡ []
    pub gone : (entries ≡ []) ⊎ (c'.status.has_left ≡ true)
    pub fate : c'.status.fate ≡ c.status.fate
    pub sits : c'.status.sits ≡ c.status.sits
    pub calls : c'.calls ≡ c.calls
    pub same : IsSame c c'
    pub noted : c'.status ≡ record c.status { has_left = c'.status.has_left }
    pub left : ClientHasLeft c c'

  -- its client has left if it is over, it was written to at this moment, and its client has left if it is over then
  pub record EndsTurn (ms : ℕ) (from : S) (c : Connection) (to : S) (c' : Connection) : Type 0 where
    pub mid : S
    pub left : Connection
    pub flushed : Connection
    pub leaves : Leaves from c mid left
    pub flushes : IsFlushed ms left flushed
    pub again : Leaves mid flushed to c'

  -- a draw with this room was applied, or the connection was cut off
  pub record DrawsFor (room : ℕ) (from : S) (c : Connection) (to : S) (c' : Connection) : Type 0 where
    pub entries : List Entry
    pub chain : Chain steps from entries to
    pub served : IsServed c entries c'
    pub drawn : IsOneDraw c.id room entries c'
    pub once : IsAtMostDraw c.id room entries
    pub sits : c'.status.sits ≡ c.status.sits
    pub asked : c'.status.asked_ms ≡ c.status.asked_ms
    pub more : NotesMore c.id room entries c'
    pub spared : IsSpared c c'

  -- At this moment a client with a seat has drawn if there is news. So has a client for which nothing was applied for half a
  -- second.
  pub record Draws (ms : ℕ) (news : Bool) (from : S) (c : Connection) (to : S) (c' : Connection) : Type 0 where
    pub entries : List Entry
    pub chain : Chain steps from entries to
    pub served : IsServed c entries c'
    pub goes : c'.status.fate ≡ Open → c.status.fate ≡ Open
    pub drawn : news ≡ true → c.status.sits ≡ true → IsOneDraw c.id draw_room entries c'
    -- one for whom there may be more has drawn too
    pub drawn_on : c.status.is_behind ≡ true → c.status.sits ≡ true → IsOneDraw c.id draw_room entries c'
    pub more : NotesMore c.id (draw_room_for c.status.sits) entries c'
    pub asked_for : IsUnasked ms c → c'.status.fate ≡ Open → entries ≡ [] → ⊥
    pub once : IsAtMostDraw c.id (draw_room_for c.status.sits) entries
    pub sits : c'.status.sits ≡ c.status.sits
    pub asking : NotesAsking ms c entries c'
    pub given : c'.given ≡ c.given
    pub unwritten : IsUnwritten c c'
    pub spared : IsSparedBefore c c'
