-- The state of each connection, and when something happens on one.
use Rattle.std.proofs.Common.{◌≡◌, ℕ, ◌==◌, Bool, true, false, List, [], ◌∷◌, ◌++◌, Option, refl, sym, ap, subst, ◌∙◌}
use Rattle.radio_headline.proofs.Words.{map, if◌then◌else◌, append-nil, flat_map-append, Settings, Lists, Entry, Event, run_after, world_after_all, World, opening, Delivery, To, Input, TranscriptLine, given, Connection}
use Rattle.radio_headline.proofs.Words.{ScriptState, connection_of, Happening, events_in, on, log_on, brought, bytes_delivered, bytes_in, by_number, WebAnswers}
use Rattle.radio_headline.proofs.Logs.{entries, log_joined, log_here, log_elsewhere, after_joined, events_joined, events_on, itself, other_number}
use Rattle.radio_headline.proofs.RunLemmas.{AllNowhere, IsMoment}
use Rattle.radio_headline.proofs.Connections.{IsSo}
use Rattle.radio_headline.proofs.LabelLemmas.{given_joined}

pub brought_joined : (deliveries more : List Delivery) (label : ℕ) → brought (deliveries ++ more) label ≡ brought deliveries label ++ brought more label
brought_joined deliveries more label = flat_map-append (bytes_delivered label) deliveries more

pub brought_here : (label : ℕ) (input : Input) → brought (To label input ∷ []) label ≡ bytes_in input
brought_here label input = append-nil (if label == label then bytes_in input else []) ∙ ap (λ (b : Bool). if b then bytes_in input else []) (itself label)

pub brought_elsewhere : (label other : ℕ) (input : Input) → (label ≡ other → ⊥) → brought (To label input ∷ []) other ≡ []
brought_elsewhere label other input apart =
    append-nil (if label == other then bytes_in input else []) ∙ ap (λ (b : Bool). if b then bytes_in input else []) (other_number label other apart)

pub IsSo_as : (web : WebAnswers) (c c' : Option (Option Connection)) (b b' : List ℕ) (l l' : List Entry) (g g' : List ℕ) → c ≡ c' → b ≡ b' → l ≡ l' → g ≡ g'
    → IsSo web c b l g → IsSo web c' b' l' g'
IsSo_as web c c' b b' l l' g g' ec eb el eg h =
    subst (λ (o : Option (Option Connection)). IsSo web o b' l' g') ec
    (subst (λ (x : List ℕ). IsSo web c x l' g') eb (subst (λ (x : List Entry). IsSo web c b x g') el (subst (λ (x : List ℕ). IsSo web c b l x) eg h)))

module _ (web : WebAnswers) (settings : Settings) (lists : Lists) where
  abbrev w0 : World
  w0 = opening settings lists

  -- the state of all connections after these deliveries
  pub record Stands (done : List Delivery) (state : ScriptState) (past : List Happening) (lines : List TranscriptLine) : Type 0 where
    pub world : state.world ≡ run_after settings lists (events_in past)
    pub each : (label : ℕ) → IsSo web (connection_of state.connections label) (brought done label) (log_on w0 past label) (given lines label)
    pub nowhere : AllNowhere (λ h. IsMoment h.event) past

  pub nowhere_joined : (past more : List Happening) → AllNowhere (λ h. IsMoment h.event) past → AllNowhere (λ h. IsMoment h.event) more
      → AllNowhere (λ h. IsMoment h.event) (past ++ more)
  nowhere_joined [] more h k = k
  nowhere_joined (x ∷ past) more h k = (h.0, nowhere_joined past more h.1 k)

  nowhere_on : (label : ℕ) (events : List Event) → AllNowhere (λ h. IsMoment h.event) (map (on label) events)
  nowhere_on label [] = tt
  nowhere_on label (event ∷ events) = ((λ e. cc), nowhere_on label events)

  -- something happens on the connection of a label, and the others are unchanged
  pub record Changes (done : List Delivery) (state later : ScriptState) (past : List Happening) (lines : List TranscriptLine) (delivery : Delivery)
      (events : List Event) (told : List TranscriptLine) (label : ℕ) : Type 0 where
    pub world : later.world ≡ world_after_all state.world events
    pub here : IsSo web (connection_of later.connections label) (brought done label ++ brought (delivery ∷ []) label)
        (log_on w0 past label ++ entries state.world events) (given lines label ++ given told label)
    pub connections : (other : ℕ) → (label ≡ other → ⊥) → connection_of later.connections other ≡ connection_of state.connections other
    pub silent : (other : ℕ) → (label ≡ other → ⊥) → brought (delivery ∷ []) other ≡ []
    pub untold : (other : ℕ) → (label ≡ other → ⊥) → given told other ≡ []

  module _ (done : List Delivery) (state : ScriptState) (past : List Happening) (lines : List TranscriptLine) (s : Stands done state past lines) where
    pub then_stands : (later : ScriptState) (delivery : Delivery) (events : List Event) (told : List TranscriptLine) (label : ℕ)
        → Changes done state later past lines delivery events told label
        → Stands (done ++ delivery ∷ []) later (past ++ map (on label) events) (lines ++ told)
    then_stands later delivery events told label c = record {
      world = c.world ∙ ap (λ (x : World). world_after_all x events) s.world
          ∙ sym (after_joined w0 (events_in past) events)
          ∙ ap (λ (es : List Event). run_after settings lists (events_in past ++ es)) (sym (events_on label events))
          ∙ ap (run_after settings lists) (sym (events_joined past (map (on label) events)));
      each = λ other. by_number label other
          (λ same. subst (λ (l : ℕ). IsSo web (connection_of later.connections l) (brought (done ++ delivery ∷ []) l) (log_on w0 (past ++ map (on label) events) l)
          (given (lines ++ told) l)) same here)
          (λ apart. elsewhere other (λ same. let it : (label == other) ≡ true = ap (λ (n : ℕ). label == n) (sym same) ∙ itself label in
          let both : true ≡ false = sym it ∙ apart in cc));
      nowhere = nowhere_joined past (map (on label) events) s.nowhere (nowhere_on label events);
    } where
      here : IsSo web (connection_of later.connections label) (brought (done ++ delivery ∷ []) label) (log_on w0 (past ++ map (on label) events) label)
          (given (lines ++ told) label)
      here = IsSo_as web _ _ _ _ _ _ _ _ refl (sym (brought_joined done (delivery ∷ []) label))
          (ap (λ (x : World). log_on w0 past label ++ entries x events) s.world
          ∙ ap (λ (xs : List Entry). log_on w0 past label ++ xs) (sym (log_here (run_after settings lists (events_in past)) label events))
          ∙ sym (log_joined w0 past (map (on label) events) label))
          (sym (given_joined lines told label)) c.here

      elsewhere : (other : ℕ) → (label ≡ other → ⊥)
          → IsSo web (connection_of later.connections other) (brought (done ++ delivery ∷ []) other) (log_on w0 (past ++ map (on label) events) other)
          (given (lines ++ told) other)
      elsewhere other apart = IsSo_as web _ _ _ _ _ _ _ _ (sym (c.connections other apart))
          (sym (brought_joined done (delivery ∷ []) other ∙ ap (λ (xs : List ℕ). brought done other ++ xs) (c.silent other apart) ∙ append-nil (brought done other)))
          (sym (log_joined w0 past (map (on label) events) other
          ∙ ap (λ (xs : List Entry). log_on w0 past other ++ xs) (log_elsewhere (run_after settings lists (events_in past)) label other events apart)
          ∙ append-nil (log_on w0 past other)))
          (sym (given_joined lines told other ∙ ap (λ (xs : List ℕ). given lines other ++ xs) (c.untold other apart) ∙ append-nil (given lines other)))
          (s.each other)
