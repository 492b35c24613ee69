-- A worker's turn.
use Rattle.std.specs.Prelude.{◌≡◌, ◌-◌, ◌⊎◌, ◌&&◌, ◌||◌, ℕ, nat_lt, Bool, true, false, List, [], ◌∷◌, filter}
use Rattle.radio_events.specs.declared.event.Event.{Event}
use Rattle.radio_events.specs.declared.event.Event.TheVariants.{Clock}
use Rattle.radio_events.specs.declared.reply.Reply.{Reply}
use Rattle.radio_events.specs.declared.entry.Entry.{Entry}
use Rattle.radio_events.specs.Servers.{Steps}
use Rattle.radio_connections.specs.declared.conn.Fate.TheVariants.{Open}
use Rattle.radio_connections.specs.Connections.{Connection, stays}
use Rattle.radio_connections.specs.Course.{Arrival}
use Rattle.radio_connections.specs.Serving.{Stands, ServesInTurn}
use Rattle.radio_serving.specs.declared.turn.Turn.{Turn}
use Rattle.radio_serving.specs.Workers.{WorkerOf}

-- the session of an open connection in a sound state has not failed
abbrev pub OpenSessionsHaveNotFailed : Type 0
OpenSessionsHaveNotFailed = (arrival : Arrival) (c : Connection) (entries : List Entry) → Stands arrival c entries → c.status.fate ≡ Open → c.session.has_failed ≡ false

-- whether a moment is known to the server: the worker itself gave it one within the last 50 milliseconds, or somebody did, and the worker itself within
-- the last second
-- rule: Server time
abbrev pub is_time_known : ℕ → ℕ → ℕ → Bool
is_time_known ms clock own = nat_lt (ms - own) 50 || (nat_lt (ms - clock) 50 && nat_lt (ms - own) 1000)

module _ {S : Type 0} (steps : Steps S) where
  -- each connection was served, one after another
  abbrev pub ServesEach : ℕ → ℕ → Bool → S → List Connection → S → List Connection → Type 0
  ServesEach ms patience news from [] to served = (to ≡ from) × (served ≡ [])
  ServesEach ms patience news from (c ∷ cs) to served =
      (mid : S) × (c' : Connection) × (others : List Connection) × ServesInTurn steps ms patience news from c mid c' × ServesEach ms patience news mid cs to others
      × (served ≡ c' ∷ others)

  -- the event was applied, or refused for want of memory by a server that may refuse it
  abbrev pub HasApplied : (S → Event → Type 0) → Bool → S → Event → S → Type 0
  HasApplied refuses true from event to = (reply : Reply) × steps from event reply to
  HasApplied refuses false from event to = (to ≡ from) × refuses from event

  -- the worker gives the server this moment, unless that is refused for want of memory; if it is known, it does not
  abbrev pub TicksUnless : Bool → (S → Event → Type 0) → ℕ → WorkerOf S → WorkerOf S → Type 0
  TicksUnless true refuses ms before after = after ≡ before
  TicksUnless false refuses ms before after =
      ((after.clock_ms ≡ ms) × (after.patience_ms ≡ before.patience_ms) × (after.web ≡ before.web) × HasApplied refuses true before.server (Clock ms) after.server)
      ⊎ ((after ≡ before) × refuses before.server (Clock ms))

  -- the server gets this moment exactly if it is not known, where it was given another
  -- rule: Server time
  abbrev pub Ticks : (S → Event → Type 0) → ℕ → ℕ → WorkerOf S → WorkerOf S → Type 0
  Ticks refuses ms clock before after = TicksUnless (is_time_known ms clock before.clock_ms) refuses ms before after

  -- A turn: the server gets the time if it is due, each connection is served, and those that are over are closed.
  -- rule: Server time
  pub record IsTurn (refuses : S → Event
      → Type 0) (turn : Turn) (before : WorkerOf S) (conns : List Connection) (after : WorkerOf S) (conns' : List Connection) : Type 0 where
    pub mid : WorkerOf S
    pub served : List Connection
    pub ticks : Ticks refuses turn.ms turn.clock_ms before mid
    pub same : (after.clock_ms ≡ mid.clock_ms) × (after.patience_ms ≡ mid.patience_ms) × (after.web ≡ mid.web)
    pub serves : ServesEach turn.ms mid.patience_ms turn.news mid.server conns after.server served
    pub closes : conns' ≡ filter stays served
