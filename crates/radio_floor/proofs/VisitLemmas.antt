-- The result of a delivery for a label, from the result of the visit of its row.
use Rattle.std.proofs.Common.{◌≡◌, ℕ, List, [], ◌++◌, Option, None, Some, Result, Ok, Err, refl, sym, ap, subst, ◌∙◌}
use Rattle.radio_floor.proofs.Words.{find, MatchResult, option_map, World, Represents, Delivery, Input, PerformFault, OutOfMemory, update_first, WebAnswers, DeliveryAnswer, Connection, Labelled, Performs, PerformsAs}
use Rattle.radio_floor.proofs.Words.{Performed, ComesTo, for_label, has_label, holding, on_connection, written_lines, with_connection, AnswersOn, AnswersUnder, answered_under, performed_as, script_state_of}
use Rattle.radio_tables.proofs.FindLaws.{changed_alike, unchanged}

module _ (label : ℕ) (input : Input) (connections connections' : List Labelled) where
  abbrev pub Comes : World → Performed → Type 0
  Comes w done =
      let state = script_state_of w connections in
      for_label state label (λ connection done. ComesTo state label connection input done) done

  -- the result, if the label's connection is this one
  abbrev ComesOf : World → Performed → Option (Option Connection) → Type 0
  ComesOf w done o =
      let state = script_state_of w connections in
      on_connection state (λ connection done. ComesTo state label connection input done) done o

  abbrev became : Option Labelled → Option (Option Connection)
  became = option_map (λ (l : Labelled). l.connection)

  -- the label was not opened
  pub unknown-label : (w : World) → find (has_label label) connections ≡ None → connections' ≡ connections → Comes w (performed_as None w connections')
  unknown-label w e same = subst (ComesOf w (performed_as None w connections')) (sym (ap became e)) (ap (λ (xs : List Labelled). performed_as None w xs) same)

  module _ (core core' : World) (l l' : Labelled) (found : find (has_label label) connections ≡ Some l)
      (changed : connections' ≡ update_first (has_label label) (λ _. l') connections) where
    -- its connection was shut
    shut_at : (o o' : Option Connection) → l.connection ≡ o → l'.connection ≡ o' → AnswersOn core input o (Ok None) core' o'
        → (core' ≡ core) × (l.connection ≡ None) × (l'.connection ≡ None)
    shut_at None o' e e' h = (h.1, e, e' ∙ h.2)
    shut_at (Some connection) o' e e' h = let none : None ≡ Some h.0 = h.2 in cc

    pub shut-label : AnswersUnder core input l (Ok None) core' l' → (core' ≡ core) × ((w : World) → Comes w (performed_as (Some []) w connections'))
    shut-label h =
        let shut = shut_at l.connection l'.connection refl refl h.1 in
        let row : l' ≡ l =
        ap (λ (n : ℕ). let r : Labelled = record { label = n; connection = l'.connection } in r) h.0
        ∙ ap (λ (o : Option Connection). let r : Labelled = record { label = l.label; connection = o } in r) (shut.2 ∙ sym shut.1) in
        let same : connections' ≡ connections = changed ∙ unchanged (has_label label) (λ _. l') l row connections found in
        let was : became (find (has_label label) connections) ≡ Some None = ap became found ∙ ap (λ (o : Option Connection). Some o) shut.1 in (
          shut.0,
          λ w. subst (ComesOf w (performed_as (Some []) w connections')) (sym was) (ap (λ (xs : List Labelled). performed_as (Some []) w xs) same),
        )

    -- its connection is there, and this is written on it
    abbrev pub IsWrittenOn : DeliveryAnswer → Type 0
    IsWrittenOn answered = (w : World) → Represents core w
        → (w' : World) × Represents core' w' × Comes w (performed_as (Some (written_lines label answered.bytes.items answered.state)) w' connections')

    answered_at : (o o' : Option Connection) (answered : DeliveryAnswer) → l.connection ≡ o → l'.connection ≡ o' → l'.label ≡ l.label
        → AnswersOn core input o (Ok (Some answered)) core' o' → IsWrittenOn answered
    answered_at None o' answered e e' same h w stands = let none : Ok (Some answered) ≡ Ok None = h.0 in cc
    answered_at (Some connection) o' answered e e' same h w stands =
        let t = h.0 in
        let a = h.4 w stands in
        let is : Some answered ≡ Some t = h.2 in
        let one : t ≡ answered = cc in
        let row : l' ≡ holding o' l =
        ap (λ (n : ℕ). let r : Labelled = record { label = n; connection = l'.connection } in r) same
        ∙ ap (λ (p : Option Connection). holding p l) e' in
        let set : connections' ≡ with_connection connections label o' =
        changed ∙ changed_alike (has_label label) (λ _. l') (holding o') l row connections found in
        let was : became (find (has_label label) connections) ≡ Some (Some connection) =
        ap became found ∙ ap (λ (p : Option Connection). Some p) e in
        let done = performed_as (Some (written_lines label answered.bytes.items answered.state)) a.0 connections' in
        let done_of = λ (x : DeliveryAnswer) (o : Option Connection).
        performed_as (Some (written_lines label x.bytes.items x.state)) a.0 (with_connection connections label o) in
        let same_done : answered_under connections label t h.1 a.0 ≡ done =
        ap (done_of t) (sym h.3) ∙ ap (λ (x : DeliveryAnswer). done_of x o') one
        ∙ ap (λ (xs : List Labelled). performed_as (Some (written_lines label answered.bytes.items answered.state)) a.0 xs) (sym set) in (
          a.0,
          a.1,
          subst (ComesOf w done) (sym was)
              (subst (λ (x : Performed). ComesTo (script_state_of w connections) label connection input x) same_done (a.2 connections label)),
        )

    pub answered-label : (answered : DeliveryAnswer) → AnswersUnder core input l (Ok (Some answered)) core' l' → IsWrittenOn answered
    answered-label answered h = answered_at l.connection l'.connection answered refl refl h.0 h.1

-- the lines are written of what was performed, or memory was refused
pub performs-written : (web : WebAnswers) (r : Result (Unit {0}) PerformFault) (core : World) (connections : List Labelled) (delivery : Delivery) (lines lines' text : List ℕ)
    (core' : World) (connections' : List Labelled) → MatchResult r (λ _. lines' ≡ lines ++ text) (λ fault. fault ≡ OutOfMemory)
    → Performs web core connections delivery (Some text) core' connections' → PerformsAs web r core connections delivery lines lines' core' connections'
performs-written web (Ok done) core connections delivery lines lines' text core' connections' written performs = (text, written, performs)
performs-written web (Err fault) core connections delivery lines lines' text core' connections' refused performs =
    subst (λ (f : PerformFault). PerformsAs web (Err f) core connections delivery lines lines' core' connections') (sym refused) tt
