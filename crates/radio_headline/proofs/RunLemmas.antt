-- The clients of numbers, and clients that have asked for nothing yet, over a course.
use Rattle.std.proofs.Common.{◌≡◌, ◌⊎◌, inl, inr, ℕ, ◌<◌, ◌≤◌, Bool, true, false, List, [], ◌∷◌, ◌++◌, Option, None, Some, refl, sym, ap, subst, ◌∙◌, arith}
use Rattle.radio_headline.proofs.Words.{if◌then◌else◌, AllByRecursion, nat_tests, Peer, Settings, Lists, Rule, Entry, Event, Arrive, Source, Push, SourceEnd, Title, Listen, Draw, Command, Leave, RelayUp, RelayDown}
use Rattle.radio_headline.proofs.Words.{Clock, Reply, Arrived, Feeding, Seated, Drawn, Noted, Text, Deny, Finished, Stray, client_in, Standing, Unknown, Undecided, Feeds, Sits, Answered, ClientStep, ClientsStep, Stays}
use Rattle.radio_headline.proofs.Words.{Arrives, IsAnswered, IsObeyed, IsShown, BeginsToFeed, SitsDown, StopsFeeding, Leaves, ComesUp, GoesDown, IsFinished, Finishes, is_same_number, IsShownBy, IsListing, IsAtPath}
use Rattle.radio_headline.proofs.Words.{RepliesFit, HasCome, AsClient, run_after, world_after_all, reply_to, world_after, AddsUp, numbers_given, World, opening, standing_of, Happening, on, events_in, applied_entry}
use Rattle.radio_headline.proofs.Words.{entry_on, log_on}
use Rattle.radio_parts_station.specs.declared.standing.Standing.TheVariants.{Finished as HasFinished}
use Rattle.radio_events.specs.declared.text.ReplyText.{ReplyText as CommandText}
use Rattle.radio_headline.proofs.Logs.{Each, each_second, itself, after_joined}
use Rattle.radio_headline.proofs.ReplyForms.{next_number, IsIdle, IdleReply, IsStray, WasFinished, Sitting, Sourcing, idle_reply}

-- the number was given on the connection of the log
abbrev pub HasNumber : ℕ → List Entry → Type 0
HasNumber id [] = ⊥
HasNumber id (e ∷ log) = (e.reply ≡ Arrived id) ⊎ HasNumber id log

pub number_before : (id : ℕ) (log more : List Entry) → HasNumber id log → HasNumber id (log ++ more)
number_before id [] more h = elim h [ ]
number_before id (e ∷ log) more (inl h) = inl h
number_before id (e ∷ log) more (inr h) = inr (number_before id log more h)

pub number_behind : (id : ℕ) (log more : List Entry) → HasNumber id more → HasNumber id (log ++ more)
number_behind id [] more h = h
number_behind id (e ∷ log) more h = inr (number_behind id log more h)

-- an event of a client or relay comes on the connection on which it was given its number
abbrev pub IsOwn : List Entry → Entry → Type 0
IsOwn log e = (id : ℕ) → client_in e.event ≡ Some id → HasNumber id log

pub own_before : (log more : List Entry) (e : Entry) → IsOwn log e → IsOwn (log ++ more) e
own_before log more e h id his = number_before id log more (h id his)

-- the event is a clock's
abbrev pub IsMoment : Event → Type 0
IsMoment (Clock ms) = Unit {0}
IsMoment event = ⊥

pub moments_are_nobodys : (event : Event) → IsMoment event → client_in event ≡ None
moments_are_nobodys (Arrive peer) h = elim h [ ]
moments_are_nobodys (Source asked) h = elim h [ ]
moments_are_nobodys (Push id block) h = elim h [ ]
moments_are_nobodys (SourceEnd id) h = elim h [ ]
moments_are_nobodys (Title id text) h = elim h [ ]
moments_are_nobodys (Listen asked) h = elim h [ ]
moments_are_nobodys (Draw id room) h = elim h [ ]
moments_are_nobodys (Command asked) h = elim h [ ]
moments_are_nobodys (Leave id) h = elim h [ ]
moments_are_nobodys (RelayUp mount shown) h = elim h [ ]
moments_are_nobodys (RelayDown id) h = elim h [ ]
moments_are_nobodys (Clock ms) h = refl

-- of those that come on no connection
abbrev pub AllNowhere : (Happening → Type 0) → List Happening → Type 0
AllNowhere Q [] = Unit {0}
AllNowhere Q (h ∷ past) = (h.label ≡ None → Q h) × AllNowhere Q past

-- it has not asked for anything, or has been finished since
pub data IsNew : Standing → Type 0 where
  AsksNothing : (peer : Peer) → IsNew (Undecided peer)
  IsOut : (rule : Rule) → IsNew (HasFinished rule)

-- all events of the client come on the connection of the label
abbrev pub AreOn : ℕ → ℕ → List Happening → Type 0
AreOn label id past = AllByRecursion (λ (h : Happening). client_in h.event ≡ Some id → is_same_number label h.label ≡ true) past

abbrev pub IsIdling : ℕ → Entry → Type 0
IsIdling id e = IsIdle id e.event

-- the reply is that of an event out of place, or of a finished client
abbrev pub IsSilent : Entry → Type 0
IsSilent e = (e.reply ≡ Stray) ⊎ ((rule : Rule) × (e.reply ≡ Finished rule))

pub record Waits (id : ℕ) (w : World) (log : List Entry) : Type 0 where
  pub new : IsNew (standing_of w id)
  pub silent : Each IsSilent log

module _ (settings : Settings) (lists : Lists)
    (fits : (events : List Event) (event : Event) → RepliesFit (run_after settings lists events) event)
    (adds : (events : List Event) (event : Event) → AddsUp (run_after settings lists events) event)
    (steps : (events : List Event) (event : Event) → ClientsStep (run_after settings lists events) event) where
  -- a state of a run
  abbrev pub Reached : World → Type 0
  Reached w = (events : List Event) × (w ≡ run_after settings lists events)

  pub reached_opening : Reached (opening settings lists)
  reached_opening = ([], refl)

  pub reached_after : (w : World) (event : Event) → Reached w → Reached (world_after w event)
  reached_after w event (events, e) =
      (events ++ event ∷ [], ap (λ (x : World). world_after x event) e ∙ sym (after_joined (opening settings lists) events (event ∷ [])))

  pub reached_all : (w : World) (events : List Event) → Reached w → Reached (world_after_all w events)
  reached_all w [] r = r
  reached_all w (event ∷ events) r = reached_all (world_after w event) events (reached_after w event r)

  pub fits_at : (w : World) (event : Event) → Reached w → RepliesFit w event
  fits_at w event (events, e) = subst (λ (x : World). RepliesFit x event) (sym e) (fits events event)

  adds_at : (w : World) (event : Event) → Reached w → AddsUp w event
  adds_at w event (events, e) = subst (λ (x : World). AddsUp x event) (sym e) (adds events event)

  pub steps_at : (w : World) (event : Event) → Reached w → ClientsStep w event
  steps_at w event (events, e) = subst (λ (x : World). ClientsStep x event) (sym e) (steps events event)

  -- the last number does not go back
  pub last_stays : (w : World) (event : Event) (id : ℕ) → Reached w → id ≤ w.station.last_id → id ≤ (world_after w event).station.last_id
  last_stays w event id r below = let sum = (adds_at w event r).numbers in omega (arith, sum)

  -- a number that is given later is larger
  pub later_numbers : (w : World) (past : List Happening) (label id : ℕ) → Reached w → HasNumber id (log_on w past label) → w.station.last_id < id
  later_numbers w [] label id r has = elim has [ ]
  later_numbers w (h ∷ past) label id r has =
      by_label (later_numbers (world_after w h.event) past label id (reached_after w h.event r)) (is_same_number label h.label) has where
        tail : (HasNumber id (log_on (world_after w h.event) past label) → (world_after w h.event).station.last_id < id)
            → HasNumber id (log_on (world_after w h.event) past label) → w.station.last_id < id
        tail ih t =
            let later = ih t in
            let sum = (adds_at w h.event r).numbers in
            omega (arith, later, sum)

        by_label : (HasNumber id (log_on (world_after w h.event) past label) → (world_after w h.event).station.last_id < id) → (b : Bool)
            → HasNumber id ((if b then applied_entry w h.event ∷ [] else []) ++ log_on (world_after w h.event) past label) → w.station.last_id < id
        by_label ih true (inl e) = ((fits_at w h.event r).arrived id e).1
        by_label ih true (inr t) = tail ih t
        by_label ih false t = tail ih t

  pub given_here : (w : World) (event : Event) (id : ℕ) → Reached w → reply_to w event ≡ Arrived id → id ≤ (world_after w event).station.last_id
  given_here w event id r e =
      let sum = (adds_at w event r).numbers in
      let one : numbers_given (reply_to w event) ≡ 1 = ap numbers_given e in
      let next = next_number w event id e in
      omega (arith, sum, one, next)

  -- a number is given on one connection alone
  pub one_owner : (w : World) (past : List Happening) (label other id : ℕ) → Reached w → HasNumber id (log_on w past label)
      → HasNumber id (log_on w past other) → label ≡ other
  one_owner w [] label other id r mine its = elim mine [ ]
  one_owner w (h ∷ past) label other id r mine its =
      by_labels (one_owner (world_after w h.event) past label other id (reached_after w h.event r)) (is_same_number label h.label) refl (is_same_number other h.label)
      refl mine its where
        both : (b : Option ℕ) → is_same_number label b ≡ true → is_same_number other b ≡ true → label ≡ other
        both None e f = cc
        both (Some him) e f = let one : him ≡ label = grind (arith, nat_tests) in let two : him ≡ other = grind (arith, nat_tests) in sym one ∙ two

        too_late : (his : ℕ) → reply_to w h.event ≡ Arrived id → HasNumber id (log_on (world_after w h.event) past his) → label ≡ other
        too_late his e t =
            let above = later_numbers (world_after w h.event) past his id (reached_after w h.event r) t in
            let below = given_here w h.event id r e in
            let none : ⊥ = omega (arith, above, below) in
            absurd none

        by_labels : (HasNumber id (log_on (world_after w h.event) past label) → HasNumber id (log_on (world_after w h.event) past other) → label ≡ other)
            → (b : Bool) → is_same_number label h.label ≡ b → (c : Bool) → is_same_number other h.label ≡ c
            → HasNumber id ((if b then applied_entry w h.event ∷ [] else []) ++ log_on (world_after w h.event) past label)
            → HasNumber id ((if c then applied_entry w h.event ∷ [] else []) ++ log_on (world_after w h.event) past other) → label ≡ other
        by_labels ih true e true f x y = both h.label e f
        by_labels ih true e false f (inl x) y = too_late other x y
        by_labels ih true e false f (inr x) y = ih x y
        by_labels ih false e true f x (inl y) = too_late label y x
        by_labels ih false e true f x (inr y) = ih x y
        by_labels ih false e false f x y = ih x y

  -- a client that has asked for nothing has asked for nothing still, if it only draws and sends titles
  still_new : (w : World) (event : Event) (id : ℕ) → (client_in event ≡ Some id → IsIdle id event) → (Cause : Rule → Type 0) → (s later : Standing)
      → ClientStep w Cause event id s later → IsNew s → IsNew later
  still_new w event id idle Cause s later (Stays _) n = n
  still_new w event id idle Cause s later (Arrives peer e p l) n = AsksNothing peer
  still_new w event id idle Cause s later (IsAnswered peer rule his denied) n = absurd (never (idle_reply w id event (idle his)) denied) where
    never : {r : Reply} → IdleReply w id r → r ≡ Deny rule → ⊥
    never IsStray e = cc
    never (WasFinished by) e = cc
    never (Sitting bytes title sits) e = cc
    never (Sourcing mount feeds) e = cc
  still_new w event id idle Cause s later (IsObeyed peer command his c) n = absurd (subst (λ (x : Event). IsIdle id x) c.is_event (idle his))
  still_new w event id idle Cause s later (IsShown peer text his c) n = absurd (never (idle his) c) where
    never : {t : CommandText} → IsIdle id event → IsShownBy w event t → ⊥
    never i (IsListing listing l) = subst (λ (x : Event). IsIdle id x) l.is_event i
    never i (IsAtPath asked path e p) = subst (λ (x : Event). IsIdle id x) e i
  still_new w event id idle Cause s later (BeginsToFeed peer asked e his allowed) n = absurd (subst (λ (x : Event). IsIdle id x) e (idle (ap client_in e ∙ ap (λ (m : ℕ). Some m) his)))
  still_new w event id idle Cause s later (SitsDown peer asked e his allowed) n = absurd (subst (λ (x : Event). IsIdle id x) e (idle (ap client_in e ∙ ap (λ (m : ℕ). Some m) his)))
  still_new w event id idle Cause s later (StopsFeeding mount e no_relay) n = elim n [ ]
  still_new w event id idle Cause s later (ComesUp mount shown e above allowed) n = elim n [ ]
  still_new w event id idle Cause s later (Leaves _ e no_relay) n = absurd (subst (λ (x : Event). IsIdle id x) e (idle (ap client_in e)))
  still_new w event id idle Cause s later (GoesDown _ e relay) n = absurd (subst (λ (x : Event). IsIdle id x) e (idle (ap client_in e)))
  still_new w event id idle Cause s later (IsFinished _ rule c) n = IsOut rule

  pub are_on_first : (label id : ℕ) (past more : List Happening) → AreOn label id (past ++ more) → AreOn label id past
  are_on_first label id [] more a = tt
  are_on_first label id (h ∷ past) more a = (a.0, are_on_first label id past more a.1)

  silent_when_new : (w : World) (id : ℕ) (s : Standing) → standing_of w id ≡ s → IsNew s → (reply : Reply) → IdleReply w id reply
      → (reply ≡ Stray) ⊎ ((rule : Rule) × (reply ≡ Finished rule))
  silent_when_new w id s e n (Arrived him) h = elim h [ ]
  silent_when_new w id s e n Feeding h = elim h [ ]
  silent_when_new w id s e n (Seated interval head) h = elim h [ ]
  silent_when_new w id s e n (Text text) h = elim h [ ]
  silent_when_new w id s e n (Deny rule) h = elim h [ ]
  silent_when_new w id s e n Stray IsStray = inl refl
  silent_when_new w id s e n (Finished rule) (WasFinished _) = inr (rule, refl)
  silent_when_new w id s e n (Drawn bytes title) (Sitting _ _ sits) = absurd (never s (sym sits ∙ e) n) where
    never : (s : Standing) → Sits ≡ s → IsNew s → ⊥
    never Unknown d h = elim h [ ]
    never (Feeds place) d h = elim h [ ]
    never Sits d h = elim h [ ]
    never Answered d h = elim h [ ]
    never (Undecided peer) d (AsksNothing _) = cc
    never (HasFinished rule) d (IsOut _) = cc
  silent_when_new w id s e n Noted (Sourcing mount feeds) = absurd (never s (sym feeds ∙ e) n) where
    never : (s : Standing) → Feeds mount ≡ s → IsNew s → ⊥
    never Unknown d h = elim h [ ]
    never (Feeds place) d h = elim h [ ]
    never Sits d h = elim h [ ]
    never Answered d h = elim h [ ]
    never (Undecided peer) d (AsksNothing _) = cc
    never (HasFinished rule) d (IsOut _) = cc

  -- a client that has asked for nothing idles
  pub idles : (w : World) (past : List Happening) (label id : ℕ) → Reached w → AreOn label id past → IsNew (standing_of w id)
      → Each (IsIdling id) (log_on w past label) → Waits id (world_after_all w (events_in past)) (log_on w past label)
  idles w [] label id r on new idle = record { new = new; silent = tt }
  idles w (h ∷ past) label id r on new idle =
      by_label (idles (world_after w h.event) past label id (reached_after w h.event r) on.1) (is_same_number label h.label) refl idle where
        goes : (client_in h.event ≡ Some id → IsIdle id h.event) → IsNew (standing_of (world_after w h.event) id)
        goes his = still_new w h.event id his (Finishes w h.event id) (standing_of w id) (standing_of (world_after w h.event) id) (steps_at w h.event r id) new

        by_label : (IsNew (standing_of (world_after w h.event) id) → Each (IsIdling id) (log_on (world_after w h.event) past label)
            → Waits id (world_after_all (world_after w h.event) (events_in past)) (log_on (world_after w h.event) past label))
            → (b : Bool) → is_same_number label h.label ≡ b → Each (IsIdling id) ((if b then applied_entry w h.event ∷ [] else []) ++ log_on (world_after w h.event) past label)
            → Waits id (world_after_all (world_after w h.event) (events_in past)) ((if b then applied_entry w h.event ∷ [] else []) ++ log_on (world_after w h.event) past label)
        by_label ih true e i =
            let rest = ih (goes (λ his. i.0)) i.1 in
            record {
              new = rest.new;
              silent = (silent_when_new w id (standing_of w id) refl new (reply_to w h.event) (idle_reply w id h.event i.0), rest.silent);
            }
        by_label ih false e i =
            ih (goes (λ his. let both : true ≡ false = sym (on.0 his) ∙ e in cc)) i

  new_client : (w : World) (peer : Peer) (id : ℕ) → HasCome w id (Arrive peer) → IsNew (standing_of (world_after w (Arrive peer)) id)
  new_client w peer id (AsClient _ stands) = subst IsNew (sym stands) (AsksNothing peer)

  -- one has arrived, and idles
  pub arrives_and_idles : (w : World) (past : List Happening) (label id : ℕ) (peer : Peer) (idle : List Entry) → Reached w → AreOn label id past
      → log_on w past label ≡ record { event = Arrive peer; reply = Arrived id } ∷ idle → Each (IsIdling id) idle
      → IsNew (standing_of (world_after_all w (events_in past)) id) × Each IsSilent idle
  arrives_and_idles w [] label id peer idle r on e i = cc
  arrives_and_idles w (h ∷ past) label id peer idle r on e i =
      by_label (λ d. arrives_and_idles (world_after w h.event) past label id peer idle (reached_after w h.event r) on.1 d i) (is_same_number label h.label) e where
        by_label : (log_on (world_after w h.event) past label ≡ record { event = Arrive peer; reply = Arrived id } ∷ idle
            → IsNew (standing_of (world_after_all (world_after w h.event) (events_in past)) id) × Each IsSilent idle)
            → (b : Bool) → (if b then applied_entry w h.event ∷ [] else []) ++ log_on (world_after w h.event) past label ≡ record { event = Arrive peer; reply = Arrived id } ∷ idle
            → IsNew (standing_of (world_after_all (world_after w h.event) (events_in past)) id) × Each IsSilent idle
        by_label ih true d =
            let first : applied_entry w h.event ≡ record { event = Arrive peer; reply = Arrived id } = cc in
            let others : log_on (world_after w h.event) past label ≡ idle = cc in
            let event : h.event ≡ Arrive peer = ap (λ (x : Entry). x.event) first in
            let reply : reply_to w h.event ≡ Arrived id = ap (λ (x : Entry). x.reply) first in
            let come : HasCome w id (Arrive peer) = subst (λ (x : Event). HasCome w id x) event ((fits_at w h.event r).arrived id reply).0 in
            let new : IsNew (standing_of (world_after w h.event) id) =
            subst (λ (x : Event). IsNew (standing_of (world_after w x) id)) (sym event) (new_client w peer id come) in
            let waits = idles (world_after w h.event) past label id (reached_after w h.event r) on.1 new (subst (Each (IsIdling id)) (sym others) i) in
            (waits.new, subst (Each IsSilent) others waits.silent)
        by_label ih false d = ih d

  -- what holds of each event on each connection holds of each event in the course
  pub each_happening : (P : ℕ → Event → Type 0) (Q : Happening → Type 0) → ((label : ℕ) (event : Event) → P label event → Q (on label event))
      → (w : World) (past : List Happening) → ((label : ℕ) → Each (λ e. P label e.event) (log_on w past label)) → AllNowhere Q past
      → AllByRecursion Q past
  each_happening P Q make w [] all none = tt
  each_happening P Q make w (h ∷ past) all none = (here h.label refl, each_happening P Q make (world_after w h.event) past later none.1) where
    later : (label : ℕ) → Each (λ e. P label e.event) (log_on (world_after w h.event) past label)
    later label = each_second (λ (e : Entry). P label e.event) (entry_on w h label) (log_on (world_after w h.event) past label) (all label)

    here : (l : Option ℕ) → h.label ≡ l → Q h
    here None e = none.0 e
    here (Some label) e =
        let mine : is_same_number label h.label ≡ true = ap (is_same_number label) e ∙ itself label in
        let p : P label h.event =
        (subst (λ (b : Bool). Each (λ x. P label x.event) ((if b then applied_entry w h.event ∷ [] else []) ++ log_on (world_after w h.event) past label)) mine (all label)).0 in
        subst (λ (o : Option ℕ). Q (record { label = o; event = h.event })) (sym e) (make label h.event p)
