-- What a worker does at its slot, from its first turn to the end of its connections.
use Rattle.std.specs.Prelude.{◌≡◌, Bool, true, List, [], Option, None, Some}
use Rattle.radio_addr.specs.declared.peer.Peer.{Peer}
use Rattle.radio_answers.specs.declared.web_answers.WebAnswers.{WebAnswers}
use Rattle.radio_events.specs.declared.event.Event.{Event}
use Rattle.radio_events.specs.Servers.{Steps}
use Rattle.radio_connections.specs.Connections.{Connection}
use Rattle.radio_serving.specs.Admission.{IsAdmission, IsTurnedOff}
use Rattle.radio_serving.specs.declared.turn.Turn.{Turn}
use Rattle.radio_serving.specs.Turns.{IsTurn}
use Rattle.radio_serving.specs.Watching.{WatchedOf, WatchedSteps, watched_of}
use Rattle.radio_serving.specs.Workers.{WorkerOf}
use Rattle.radio_workers.specs.Leaving.{LeavesAll}
use Rattle.radio_workers.specs.Shifts.{HasParted, without_oldest}

-- a worker, the connections of sources, and the others
pub record ShiftOf (S : Type 0) : Type 0 where
  pub worker : WorkerOf (WatchedOf S)
  pub sources : List Connection
  pub conns : List Connection

abbrev pub shift_of : {S : Type 0} → WorkerOf (WatchedOf S) → List Connection → List Connection → ShiftOf S
shift_of worker sources conns = record { worker = worker; sources = sources; conns = conns }

-- of a worker only the state of its server has changed
pub record HasOnlyAsked {S : Type 0} (before after : WorkerOf S) : Type 0 where
  pub web : after.web ≡ before.web
  pub clock : after.clock_ms ≡ before.clock_ms
  pub patience : after.patience_ms ≡ before.patience_ms

module _ {S : Type 0} (steps : Steps S) (refuses : S → Event → Type 0) where
  -- a watched server may refuse what the server may refuse
  abbrev pub MayRefuse : WatchedOf S → Event → Type 0
  MayRefuse watched event = refuses watched.server event

  -- What a worker has done since its shift was so first. It took a connection in behind the others, whose line had given and taken nothing, or did not serve it.
  -- It served the connections of sources and then the others in a turn. It moved a connection to those of sources, and closed one that lingered.
  pub data WorkerHasDone (first : ShiftOf S) : ShiftOf S → Type 0 where
    nothing_yet : WorkerHasDone first first
    admitted : (worker after : WorkerOf (WatchedOf S)) (sources conns conns' : List Connection) → WorkerHasDone first (shift_of worker sources conns)
        → HasOnlyAsked worker after → (peer : Peer)
        → IsAdmission (WatchedSteps steps) worker.web peer [] [] worker.server conns after.server conns'
        → WorkerHasDone first (shift_of after sources conns')
    turned_off : (worker after : WorkerOf (WatchedOf S)) (sources conns : List Connection) → WorkerHasDone first (shift_of worker sources conns)
        → HasOnlyAsked worker after → (peer : Peer) → IsTurnedOff (WatchedSteps steps) peer worker.server after.server
        → WorkerHasDone first (shift_of after sources conns)
    served : (worker between after : WorkerOf (WatchedOf S)) (sources conns sources' conns' : List Connection) → WorkerHasDone first (shift_of worker sources conns)
        → (turn : Turn) (news : Bool) → IsTurn (WatchedSteps steps) MayRefuse turn worker sources between sources'
        → IsTurn (WatchedSteps steps) MayRefuse (record turn { news = news }) between conns after conns'
        → WorkerHasDone first (shift_of after sources' conns')
    parted : (worker : WorkerOf (WatchedOf S)) (sources conns sources' conns' : List Connection) → WorkerHasDone first (shift_of worker sources conns)
        → HasParted true worker.server.feeding sources conns sources' conns' → WorkerHasDone first (shift_of worker sources' conns')
    closed : (worker : WorkerOf (WatchedOf S)) (sources conns sources' conns' : List Connection) → WorkerHasDone first (shift_of worker sources conns)
        → (sources', conns') ≡ without_oldest sources conns → WorkerHasDone first (shift_of worker sources' conns')

  -- What a worker has done at its slot, with these settings of answers: it began with no connection, and at its end all clients left that had not.
  -- rule: End of a worker
  pub record HasWorkedAtSlot (web : WebAnswers) (first last : S) : Type 0 where
    pub worker : WorkerOf (WatchedOf S)
    pub server : worker.server ≡ watched_of first
    pub answers : worker.web ≡ web
    pub ends : ShiftOf S
    pub done : WorkerHasDone (shift_of worker [] []) ends
    pub between : WatchedOf S
    pub left : WatchedOf S
    pub sources_leave : LeavesAll (WatchedSteps steps) MayRefuse ends.worker.server ends.sources between
    pub others_leave : LeavesAll (WatchedSteps steps) MayRefuse between ends.conns left
    pub comes_back : last ≡ left.server

  -- the pass at a slot, before and after: it is back, and what was done through it is the worker's work; a slot without a pass stays so
  abbrev pub IsWorkOf : WebAnswers → Option S → Option S → Type 0
  IsWorkOf web None now = now ≡ None
  IsWorkOf web (Some first) None = ⊥
  IsWorkOf web (Some first) (Some last) = HasWorkedAtSlot web first last
