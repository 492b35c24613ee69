-- Events of a connection, applied one after another.
use Rattle.std.specs.Prelude.{◌≡◌, ◌⊎◌, ℕ, false, List, [], ◌∷◌, ◌++◌}
use Rattle.radio_events.specs.declared.event.Event.{Event}
use Rattle.radio_events.specs.declared.reply.Reply.{Reply}
use Rattle.radio_events.specs.declared.entry.Entry.{Entry}
use Rattle.radio_events.specs.Events.{entry}
use Rattle.radio_session.specs.Conversation.{Conversation, saying_now}
use Rattle.radio_session.specs.Saying.{said}
use Rattle.radio_connections.specs.declared.conn.Fate.{Fate}
use Rattle.radio_connections.specs.declared.conn.Fate.TheVariants.{Open, Closed, Cut}
use Rattle.radio_connections.specs.Connections.{Connection}
use Rattle.radio_connections.specs.Course.{Arrival, fate_by, is_listen}
use Rattle.radio_session.specs.Hearing.{EventReading, IsHeard}
use Rattle.radio_connections.specs.Duties.{IsLater, LacksMemory, AreFirstOf, events_of, NotesAsking}
use Rattle.radio_connections.specs.Serving.{StandsBefore, Stands}

-- With this fate, the reply was appended on a connection: its bytes are pending behind the others, and its session is what it is then. If
-- it is cut off, nothing is said.
abbrev pub IsAppendedAs : Fate → Reply → Conversation → List ℕ → Conversation → List ℕ → Type 0
IsAppendedAs Cut reply session outgoing session' outgoing' = Unit {0}
IsAppendedAs fate reply session outgoing session' outgoing' =
    (fate ≡ fate_by (said session.says reply).state) × (session' ≡ saying_now session (said session.says reply).says)
    × (outgoing' ≡ outgoing ++ (said session.says reply).bytes)

-- what is still to be applied of a connection that goes on
abbrev pub later_by : Fate → List Event → List Event
later_by Open later = later
later_by fate later = []

-- nothing was written to it: what its line took is as it was, and what is noted of that
pub record IsUnwritten (c c' : Connection) : Type 0 where
  pub taken : c'.taken ≡ c.taken
  pub moved : c'.status.moved_ms ≡ c.status.moved_ms
  pub has_taken : c'.status.has_taken ≡ c.status.has_taken
  pub finished : c'.status.is_finished ≡ c.status.is_finished

-- its line was not called; it is not closed, and cut off only if memory was refused
pub record IsSpared (c c' : Connection) : Type 0 where
  pub calls : c'.calls ≡ c.calls
  pub given : c'.given ≡ c.given
  pub unwritten : IsUnwritten c c'
  pub closed : c'.status.fate ≡ Closed → ⊥
  pub cut : c'.status.fate ≡ Cut → LacksMemory c c'

-- the first of its events was applied, or the connection was cut off
-- rule: Connection without memory
pub record IsAnswered (event : Event) (c : Connection) (entries : List Entry) (c' : Connection) : Type 0 where
  pub same : c'.id ≡ c.id
  -- The event has at most one entry, and has one if the connection goes on. Only a request to listen to a mount may give it a
  -- seat.
  pub once : (entries ≡ []) ⊎ ((reply : Reply) × (entries ≡ entry event reply ∷ []))
  pub made : c'.status.fate ≡ Open → (reply : Reply) × (entries ≡ entry event reply ∷ [])
  pub seat : is_listen event ≡ false → c'.status.sits ≡ c.status.sits
  pub stands : (arrival : Arrival) (later : List Event) (past : List Entry) → StandsBefore arrival (event ∷ later) c past
      → StandsBefore arrival (later_by c'.status.fate later) c' (past ++ entries)
  pub later : IsLater c c'
  pub spared : IsSpared c c'
  pub asked : c'.status.asked_ms ≡ c.status.asked_ms

-- its events were applied, up to its end
pub record AreAnswered (events : List Event) (c : Connection) (entries : List Entry) (c' : Connection) : Type 0 where
  pub same : c'.id ≡ c.id
  -- the first of the events have entries, and all have if the connection goes on
  pub first : AreFirstOf entries events
  pub all : c'.status.fate ≡ Open → events ≡ events_of entries
  pub stands : (arrival : Arrival) (past : List Entry) → StandsBefore arrival events c past → Stands arrival c' (past ++ entries)
  pub later : IsLater c c'
  pub spared : IsSpared c c'
  pub asked : c'.status.asked_ms ≡ c.status.asked_ms

-- these entries are of the first of the events that the bytes mean
pub record AreOf (c : Connection) (bytes : List ℕ) (entries : List Entry) : Type 0 where
  pub heard : EventReading
  pub is : IsHeard c.session bytes heard
  pub first : AreFirstOf entries heard.events

-- bytes that its line gave last are read at this moment, and answered
pub record IsHeardOn (ms : ℕ) (bytes : List ℕ) (c : Connection) (entries : List Entry) (c' : Connection) : Type 0 where
  pub same : c'.id ≡ c.id
  pub heard : (entries ≡ []) ⊎ AreOf c bytes entries
  pub asking : NotesAsking ms c entries c'
  pub stands : (arrival : Arrival) (given : List ℕ) (past : List Entry) → c.given ≡ given ++ bytes → Stands arrival (record c { given = given }) past
      → Stands arrival c' (past ++ entries)
  pub later : IsLater c c'
  pub spared : IsSpared c c'
