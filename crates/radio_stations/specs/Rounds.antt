-- A worker's calls, as work: its admissions and its turns.
use Rattle.std.specs.Prelude.{◌≡◌, ℕ, List, [], ◌∷◌, ◌++◌, map}
use Rattle.radio_addr.specs.declared.peer.Peer.{Peer}
use Rattle.radio_answers.specs.declared.web_answers.WebAnswers.{WebAnswers}
use Rattle.radio_events.specs.declared.event.Event.{Event}
use Rattle.radio_events.specs.Servers.{Steps}
use Rattle.radio_connections.specs.Connections.{Connection}
use Rattle.radio_serving.specs.Admission.{IsAdmission}
use Rattle.radio_serving.specs.declared.turn.Turn.{Turn}
use Rattle.radio_serving.specs.Turns.{IsTurn}
use Rattle.radio_serving.specs.Workers.{WorkerOf}
use Rattle.radio_stations.specs.Work.{HasWorked, Made, Roll, here, unknown}

-- a connection that a worker serves, and its label
pub record Held : Type 0 where
  pub label : ℕ
  pub connection : Connection

abbrev pub held_at : ℕ → Connection → Held
held_at label connection = record { label = label; connection = connection }

abbrev pub connections : List Held → List Connection
connections held = map (λ (one : Held). one.connection) held

-- it is none of these
abbrev pub IsOther : ℕ → List Held → Type 0
IsOther label [] = Unit {0}
IsOther label (one ∷ held) = (one.label ≡ label → ⊥) × IsOther label held

-- each has a label of its own, under which the roll has it
abbrev pub AreHeld : List Held → Roll → Type 0
AreHeld [] roll = Unit {0}
AreHeld (one ∷ held) roll = (roll one.label ≡ here one.connection) × IsOther one.label held × AreHeld held roll

module _ {S : Type 0} (steps : Steps S) (web : WebAnswers) (refuses : S → Event → Type 0) where
  -- it did more, and serves these now
  pub record WorksOn (first : S) (made : List Made) (to : S) (conns : List Connection) : Type 0 where
    pub more : List Made
    pub roll : Roll
    pub worked : HasWorked steps web first (made ++ more) to roll
    pub held : List Held
    pub are_held : AreHeld held roll
    pub same : connections held ≡ conns

  -- a worker that takes a connection in under a new label has worked on
  abbrev pub AdmissionsAreWork : Type 0
  AdmissionsAreWork = (first from to : S) (made : List Made) (roll : Roll) (held : List Held) (peer : Peer) (label : ℕ) (conns : List Connection)
      → HasWorked steps web first made from roll → AreHeld held roll → IsOther label held → roll label ≡ unknown
      → IsAdmission steps web peer [] [] from (connections held) to conns → WorksOn first made to conns

  -- a worker that has served its connections in a turn has worked on
  abbrev pub TurnsAreWork : Type 0
  TurnsAreWork = (first : S) (w after : WorkerOf S) (made : List Made) (roll : Roll) (held : List Held) (turn : Turn) (conns : List Connection)
      → HasWorked steps web first made w.server roll → AreHeld held roll → IsTurn steps refuses turn w (connections held) after conns
      → WorksOn first made after.server conns
