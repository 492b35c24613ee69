use Rattle.std.proofs.Common.{◌≡◌, ℕ, false, List, ◌++◌, Option, None, Some, is_some, Result, Ok, Err, sym, subst, OnOk}
use Rattle.radio_floor.proofs.Words.{World, Delivery, PerformFault, Label, WebAnswers, Connection, Labelled, ScriptState, Performed, connection_of, for_new_label, Performs, PerformsAs}

-- a new label is opened
pub new-label : (state : ScriptState) (label : ℕ) (opened done : Performed) → false ≡ is_some (connection_of state.connections label) → opened ≡ done
    → done ≡ for_new_label state opened (connection_of state.connections label)
new-label state label opened done e h = by_connection (connection_of state.connections label) e where
  by_connection : (o : Option (Option Connection)) → false ≡ is_some o → done ≡ for_new_label state opened o
  by_connection None f = sym h
  by_connection (Some o) f = cc

-- the two clauses of a performer, from the one by cases
pub performs-ok : (web : WebAnswers) (r : Result (Unit {0}) PerformFault) (core : World) (connections : List Labelled) (delivery : Delivery) (lines lines' : List ℕ)
    (core' : World) (connections' : List Labelled) → PerformsAs web r core connections delivery lines lines' core' connections'
    → OnOk r ((text : List ℕ) × (lines' ≡ lines ++ text) × Performs web core connections delivery (Some text) core' connections')
performs-ok web (Ok done) core connections delivery lines lines' core' connections' h = h
performs-ok web (Err fault) core connections delivery lines lines' core' connections' h = tt

pub performs-label : (web : WebAnswers) (r : Result (Unit {0}) PerformFault) (core : World) (connections : List Labelled) (delivery : Delivery) (lines lines' : List ℕ)
    (core' : World) (connections' : List Labelled) → PerformsAs web r core connections delivery lines lines' core' connections' → r ≡ Err Label
    → Performs web core connections delivery None core' connections'
performs-label web r core connections delivery lines lines' core' connections' h e =
    subst (λ (s : Result (Unit {0}) PerformFault). PerformsAs web s core connections delivery lines lines' core' connections') e h

-- with a fact that holds in any case
pub with_web : (r : Result (Unit {0}) PerformFault) (lines lines' : List ℕ) (P : List ℕ → Type 0) {Q : Type 0} → Q
    → OnOk r ((text : List ℕ) × (lines' ≡ lines ++ text) × P text) → OnOk r ((text : List ℕ) × (lines' ≡ lines ++ text) × (Q × P text))
with_web (Ok done) lines lines' P q h = (h.0, h.1, (q, h.2))
with_web (Err fault) lines lines' P q h = tt
