-- The core and the connections behind a script.
use Rattle.std.specs.Prelude.{◌≡◌, ℕ, List, ◌++◌, Option, None, Some, Result, Ok, IfOk}
use Rattle.std.specs.declared.alloc.AllocError.{AllocError}
use Rattle.radio_addr.specs.declared.peer.Peer.{Peer}
use Rattle.radio_parts_station.specs.World.{World}
use Rattle.radio_core.specs.Represents.{Represents}
use Rattle.radio_script.specs.declared.delivery.Input.{Input}
use Rattle.radio_events.specs.declared.state.State.{State}
use Rattle.radio_relay.specs.Pulling.{Pulling}
use Rattle.radio_answers.specs.declared.web_answers.WebAnswers.{WebAnswers}
use Rattle.radio_floor.specs.declared.handler.DeliveryAnswer.{DeliveryAnswer}
use Rattle.radio_floor.specs.declared.labelled.Labelled.{Labelled}
use Rattle.radio_floor.specs.declared.labelled.Connection.{Connection}
use Rattle.radio_floor.specs.ScriptState.{ScriptState, Performed, ComesTo, opens_connection, connects, relay_named, written_lines, with_connection, kept_unless, pulled_on}

abbrev pub script_state_of : World → List Labelled → ScriptState
script_state_of w connections = record { world = w; connections = connections }

abbrev pub performed_as : Option (List ℕ) → World → List Labelled → Performed
performed_as lines w connections = record { lines = lines; state = script_state_of w connections }

-- Some text was added to the lines. Whatever state the core represented, the arrival yields that text, and the core represents the state after
-- it.
abbrev pub OpensAs : WebAnswers → World → List Labelled → ℕ → Peer → List ℕ → World → List Labelled → List ℕ → Type 0
OpensAs web core connections label peer lines core' connections' lines' =
    (text : List ℕ) × (lines' ≡ lines ++ text)
    × ((w : World) → Represents core w
    → (w' : World) × Represents core' w' × (opens_connection web (script_state_of w connections) label peer ≡ performed_as (Some text) w' connections'))

-- whatever state the core represented, the relay of this mount connects, or there is none, and the core is as it
-- was
abbrev pub ConnectsAs : World → List Labelled → ℕ → List ℕ → Option (List ℕ) → List Labelled → Type 0
ConnectsAs core connections label mount text connections' = (w : World) → Represents core w
    → connects (script_state_of w connections) label (relay_named w mount) ≡ performed_as text w connections'

-- this was written to a connection of a label that is now so, as what is performed
abbrev pub answered_under : List Labelled → ℕ → DeliveryAnswer → Connection → World → Performed
answered_under connections label answered connection w =
    performed_as (Some (written_lines label answered.bytes.items answered.state)) w
    (with_connection connections label (kept_unless connection answered.state))

-- Whatever state the core represented, and whatever the labels are, this is the result, and the core represents the state after
-- it.
abbrev pub AnswersAs : World → World → DeliveryAnswer → Connection → (ScriptState → ℕ → Performed → Type 0) → Type 0
AnswersAs core core' answered connection Done =
    (w : World) → Represents core w → (w' : World) × Represents core' w'
    × ((connections : List Labelled) (label : ℕ) → Done (script_state_of w connections) label (answered_under connections label answered connection w'))

-- the same for a relay, which writes nothing more to its master
abbrev pub PullsAs : World → World → State → Pulling → (ScriptState → ℕ → Performed → Type 0) → Type 0
PullsAs core core' ends pulling Done =
    (w : World) → Represents core w → (w' : World) × Represents core' w'
    × ((connections : List Labelled) (label : ℕ) → Done (script_state_of w connections) label (pulled_on (script_state_of w connections) label pulling ends w'))

-- something arrives for a label, whose connection is served, if it has one. If memory was refused, nothing is stated
abbrev pub AnswersOn : World → Input → Option Connection → Result (Option DeliveryAnswer) AllocError → World → Option Connection → Type 0
AnswersOn core input None result core' connection' = (result ≡ Ok None) × (core' ≡ core) × (connection' ≡ None)
AnswersOn core input (Some connection) result core' connection' =
    IfOk result (λ answer. (answered : DeliveryAnswer) × (now : Connection) × (answer ≡ Some answered)
    × (connection' ≡ kept_unless now answered.state)
    × AnswersAs core core' answered now (λ state label done. ComesTo state label connection input done))

-- something arrives for a label, which stays that label
abbrev pub AnswersUnder : World → Input → Labelled → Result (Option DeliveryAnswer) AllocError → World → Labelled → Type 0
AnswersUnder core input labelled result core' labelled' =
    (labelled'.label ≡ labelled.label) × AnswersOn core input labelled.connection result core' labelled'.connection
