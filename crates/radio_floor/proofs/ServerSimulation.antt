-- The server does what the state does, for each state that its core represents.
use Rattle.std.proofs.Common.{◌≡◌, ℕ, List, [], Option, Result, refl, sym, ap, subst, ◌∙◌}
use Rattle.radio_floor.proofs.Words.{World, opening, Represents, Settings, Lists, Delivery, WebAnswers, ScriptState, opening_script, script_state_of, Performs, Plays, Conduct, Runs, conduct, IsTranscriptOf, PlaysScript}
use Rattle.radio_floor.proofs.Words.{runs, plays}
use Rattle.radio_floor.specs.declared.script_server.ScriptServer.{ScriptServer}
use Rattle.radio_script.specs.declared.faults.PlayFault.{PlayFault}

-- what the server does
abbrev pub server_conduct : Conduct ScriptServer
server_conduct old delivery lines new = (new.web ≡ old.web) × Performs old.web old.handler.core old.connections delivery lines new.handler.core new.connections

-- the server has these answers and connections, and its core represents the script's state
abbrev Same : WebAnswers → ScriptServer → ScriptState → Type 0
Same web server state = (server.web ≡ web) × (w : World) × Represents server.handler.core w × (state ≡ script_state_of w server.connections)

does : (web : WebAnswers) (server server' : ScriptServer) (state : ScriptState) (delivery : Delivery) (lines : Option (List ℕ)) → Same web server state
    → server_conduct server delivery lines server' → (state' : ScriptState) × Same web server' state' × conduct web state delivery lines state'
does web server server' state delivery lines same performs =
    let d = performs.1 same.1 same.2 in
    let state' = script_state_of d.0 server'.connections in (
      state',
      (performs.0 ∙ same.0, d.0, d.1, refl),
      subst (λ (f : ScriptState). conduct web f delivery lines state') (sym same.3)
          (subst (λ (x : WebAnswers). conduct x (script_state_of same.1 server.connections) delivery lines state') same.0 d.2),
    )

-- a new server represents the opening state
opens : (web : WebAnswers) (server : ScriptServer) (settings : Settings) (lists : Lists) → server.web ≡ web → Represents server.handler.core (opening settings lists) → server.connections ≡ []
    → Same web server (opening_script settings lists)
opens web server settings lists answers stands none = (answers, opening settings lists, stands, ap (script_state_of (opening settings lists)) (sym none))

pub server_runs : (web : WebAnswers) (server last : ScriptServer) (settings : Settings) (lists : Lists) (deliveries : List Delivery) (text : List ℕ) (stop : Option ℕ)
    → server.web ≡ web → Represents server.handler.core (opening settings lists) → server.connections ≡ [] → Runs server_conduct server 1 deliveries text stop last
    → IsTranscriptOf web settings lists deliveries text stop
server_runs web server last settings lists deliveries text stop answers stands none r =
    let t =
    runs server_conduct (conduct web) (Same web) (does web) deliveries server last (opening_script settings lists) 1 text stop (opens web server settings lists answers stands none) r in
    (t.0, t.2)

pub server_plays : (web : WebAnswers) (server last : ScriptServer) (settings : Settings) (lists : Lists) (script left : List ℕ) (result : Result (Unit {0}) PlayFault)
    (written : List ℕ) (turns : ℕ) → server.web ≡ web → Represents server.handler.core (opening settings lists) → server.connections ≡ []
    → Plays server_conduct server 1 script left result written turns last → PlaysScript web settings lists script left result written turns
server_plays web server last settings lists script left result written turns answers stands none h =
    plays server_conduct (conduct web) (Same web) (does web) server last (opening_script settings lists) 1 script left result written turns
    (opens web server settings lists answers stands none) h
