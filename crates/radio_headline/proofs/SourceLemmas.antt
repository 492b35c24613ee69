-- What a source delivers is a front of the data of its body.
use Rattle.std.proofs.Common.{◌≡◌, ◌⊎◌, inl, inr, ℕ, ◌≤◌, Bool, true, false, List, [], ◌∷◌, ◌++◌, Some, refl, sym, ap, subst, ◌∙◌, arith, append_assoc}
use Rattle.radio_headline.proofs.Words.{if◌then◌else◌, AllByRecursion, flat_map, Settings, Lists, Rule, Entry, Event, Arrive, Source, Push, SourceEnd, Title, Listen, Draw, Command, Leave, RelayUp, RelayDown, Clock}
use Rattle.radio_headline.proofs.Words.{Reply, Arrived, Feeding, Seated, Drawn, Noted, Text, Deny, Finished, Stray, client_in, Standing, Unknown, Undecided, Feeds, Sits, Answered, ClientStep, ClientsStep, Stays, Arrives}
use Rattle.radio_headline.proofs.Words.{IsAnswered, IsObeyed, IsShown, BeginsToFeed, SitsDown, StopsFeeding, Leaves, ComesUp, GoesDown, IsFinished, Finishes, is_same_number, delivered, RepliesFit, run_after}
use Rattle.radio_headline.proofs.Words.{world_after_all, reply_to, world_after, AddsUp, World, standing_of, Happening, events_in, on, applied_entry, log_on, pushed, pushed_by}
use Rattle.radio_parts_station.specs.declared.standing.Standing.TheVariants.{Finished as HasFinished}
use Rattle.radio_headline.proofs.Logs.{Each}
use Rattle.radio_headline.proofs.AppliedLemmas.{IsLast, IsLeaving, IsOrderly}
use Rattle.radio_headline.proofs.ReplyForms.{noted_block, brings_noted, PushReply, PushIsStray, PushIsLast, PushIsDenied, PushIsNoted, push_reply, feeds_push}
use Rattle.radio_headline.proofs.Relays.RelayWords.{IsCut, IsGoing, IsRefusal}
use Rattle.radio_headline.proofs.RunLemmas.{HasNumber, Reached, last_stays, given_here, reached_after, steps_at}
use Rattle.radio_headline.proofs.Connections.{IsBehindRequest, IsNoRequest, events_of}
use Rattle.radio_headline.proofs.Gathered.{IsOnIt, brought_to, gathered}

-- the blocks that were noted
abbrev pub noted_of : Entry → List ℕ
noted_of e = noted_block e.reply e.event

abbrev pub noted : List Entry → List ℕ
noted log = flat_map noted_of log

abbrev pub NotesNothing : Entry → Type 0
NotesNothing e = noted_of e ≡ []

pub nothing_noted : (log : List Entry) → Each NotesNothing log → noted log ≡ []
nothing_noted [] h = refl
nothing_noted (e ∷ log) h = ap (λ (xs : List ℕ). xs ++ noted log) h.0 ∙ nothing_noted log h.1

-- what brings no block is noted as none
pub no_block : (event : Event) (reply : Reply) → pushed_by event ≡ [] → noted_block reply event ≡ []
no_block event (Arrived id) e = refl
no_block event Feeding e = refl
no_block event (Seated interval head) e = refl
no_block event (Drawn bytes title) e = refl
no_block event Noted e = e
no_block event (Text text) e = refl
no_block event (Deny rule) e = refl
no_block event (Finished rule) e = refl
no_block event Stray e = refl

abbrev pub IsHisOrNotesNothing : ℕ → Entry → Type 0
IsHisOrNotesNothing id e = (client_in e.event ≡ Some id) ⊎ NotesNothing e

pub delivered_gathered : (w : World) (past : List Happening) (label id : ℕ) → AllByRecursion (IsOnIt label id) past
    → Each (IsHisOrNotesNothing id) (log_on w past label) → delivered w (events_in past) id ≡ noted (log_on w past label)
delivered_gathered w past label id on his = in_order w past ∙ gathered noted_of w past label id on his where
  in_order : (x : World) (hs : List Happening) → delivered x (events_in hs) id ≡ brought_to noted_of x hs id
  in_order x [] = refl
  in_order x (h ∷ hs) =
      ap (λ (xs : List ℕ). (if is_same_number id (client_in h.event) then xs else []) ++ delivered (world_after x h.event) (events_in hs) id) (brings_noted x h.event)
      ∙ ap (λ (xs : List ℕ). (if is_same_number id (client_in h.event) then noted_of (applied_entry x h.event) else []) ++ xs) (in_order (world_after x h.event) hs)

-- it feeds no mount
abbrev FeedsNothing : Standing → Type 0
FeedsNothing (Feeds mount) = ⊥
FeedsNothing standing = Unit {0}

-- what is noted is a front of what is pushed
pub record Front (log : List Entry) : Type 0 where
  pub rest : List ℕ
  pub is_front : noted log ++ rest ≡ pushed (events_of log)

going_pushes : (event : Event) → IsGoing event → pushed_by event ≡ []
going_pushes (Arrive peer) h = elim h [ ]
going_pushes (Source asked) h = elim h [ ]
going_pushes (Push him block) h = elim h [ ]
going_pushes (SourceEnd him) h = elim h [ ]
going_pushes (Title him text) h = elim h [ ]
going_pushes (Listen asked) h = elim h [ ]
going_pushes (Draw him room) h = elim h [ ]
going_pushes (Command asked) h = elim h [ ]
going_pushes (RelayUp mount shown) h = elim h [ ]
going_pushes (Clock ms) h = elim h [ ]
going_pushes (Leave him) h = refl
going_pushes (RelayDown him) h = refl

going_notes : (log : List Entry) → Each (λ e. IsGoing e.event) log → Each NotesNothing log
going_notes [] h = tt
going_notes (e ∷ log) h = (no_block e.event e.reply (going_pushes e.event h.0), going_notes log h.1)

-- if nothing follows the last reply, nothing follows a refusal
refusal_is_last : (reply : Reply) → IsRefusal reply → IsLast reply
refusal_is_last (Deny rule) h = tt
refusal_is_last (Finished rule) h = tt
refusal_is_last (Arrived id) h = elim h [ ]
refusal_is_last Feeding h = elim h [ ]
refusal_is_last (Seated interval head) h = elim h [ ]
refusal_is_last (Drawn bytes title) h = elim h [ ]
refusal_is_last Noted h = elim h [ ]
refusal_is_last (Text text) h = elim h [ ]
refusal_is_last Stray h = elim h [ ]

leaving_goes : (id : ℕ) (log : List Entry) → Each (IsLeaving id) log → Each (λ e. IsGoing e.event) log
leaving_goes id [] h = tt
leaving_goes id (e ∷ log) h = (subst IsGoing (sym h.0) tt, leaving_goes id log h.1)

pub orderly_is_cut : (id : ℕ) (log : List Entry) → IsOrderly id log → IsCut log
orderly_is_cut id [] h = tt
orderly_is_cut id (e ∷ log) h = ((λ r. leaving_goes id log (h.0 (refusal_is_last e.reply r))), orderly_is_cut id log h.1)

module _ (settings : Settings) (lists : Lists)
    (fits : (events : List Event) (event : Event) → RepliesFit (run_after settings lists events) event)
    (adds : (events : List Event) (event : Event) → AddsUp (run_after settings lists events) event)
    (steps : (events : List Event) (event : Event) → ClientsStep (run_after settings lists events) event) where
  abbrev IsReached : World → Type 0
  IsReached w = Reached settings lists fits adds steps w

  still_nothing : (w : World) (event : Event) (id : ℕ) → id ≤ w.station.last_id → (client_in event ≡ Some id → IsBehindRequest id event)
      → (Cause : Rule → Type 0) (s later : Standing) → ClientStep w Cause event id s later → FeedsNothing s → FeedsNothing later
  still_nothing w event id below his Cause s later (Stays _) n = n
  still_nothing w event id below his Cause s later (Arrives peer e p l) n = tt
  still_nothing w event id below his Cause s later (IsAnswered peer rule h d) n = tt
  still_nothing w event id below his Cause s later (IsObeyed peer command h c) n = tt
  still_nothing w event id below his Cause s later (IsShown peer text h c) n = tt
  still_nothing w event id below his Cause s later (BeginsToFeed peer asked e same allowed) n =
      absurd (subst (λ (x : Event). IsBehindRequest id x) e (his (ap client_in e ∙ ap (λ (m : ℕ). Some m) same)))
  still_nothing w event id below his Cause s later (SitsDown peer asked e same allowed) n = tt
  still_nothing w event id below his Cause s later (StopsFeeding mount e no_relay) n = tt
  still_nothing w event id below his Cause s later (Leaves _ e no_relay) n = tt
  still_nothing w event id below his Cause s later (ComesUp mount shown e above allowed) n =
      let none : ⊥ = omega (arith, below, above) in absurd none
  still_nothing w event id below his Cause s later (GoesDown _ e relay) n = tt
  still_nothing w event id below his Cause s later (IsFinished _ rule c) n = tt

  step_nothing : (w : World) (event : Event) (id : ℕ) → IsReached w → id ≤ w.station.last_id → (client_in event ≡ Some id → IsBehindRequest id event)
      → FeedsNothing (standing_of w id) → FeedsNothing (standing_of (world_after w event) id)
  step_nothing w event id r below his n =
      still_nothing w event id below his (Finishes w event id) (standing_of w id) (standing_of (world_after w event) id)
      (steps_at settings lists fits adds steps w event r id) n

  behind_notes : (w : World) (id : ℕ) (event : Event) → IsBehindRequest id event → FeedsNothing (standing_of w id)
      → noted_block (reply_to w event) event ≡ []
  behind_notes w id (Arrive peer) his n = elim his [ ]
  behind_notes w id (Source asked) his n = elim his [ ]
  behind_notes w id (Listen asked) his n = elim his [ ]
  behind_notes w id (Command asked) his n = elim his [ ]
  behind_notes w id (RelayUp mount shown) his n = elim his [ ]
  behind_notes w id (Clock ms) his n = elim his [ ]
  behind_notes w id (Push him block) his n = by_reply (reply_to w (Push him block)) (push_reply w him block) where
    by_reply : (r : Reply) → PushReply w him r → noted_block r (Push him block) ≡ []
    by_reply (Arrived other) h = elim h [ ]
    by_reply Feeding h = elim h [ ]
    by_reply (Seated interval head) h = elim h [ ]
    by_reply (Drawn bytes title) h = elim h [ ]
    by_reply (Text text) h = elim h [ ]
    by_reply Stray PushIsStray = refl
    by_reply (Finished rule) (PushIsLast _) = refl
    by_reply (Deny rule) (PushIsDenied _) = refl
    by_reply Noted (PushIsNoted mount feeds) =
        absurd (subst FeedsNothing (ap (standing_of w) (sym his) ∙ feeds) n)
  behind_notes w id (SourceEnd him) his n = no_block (SourceEnd him) (reply_to w (SourceEnd him)) refl
  behind_notes w id (Title him text) his n = no_block (Title him text) (reply_to w (Title him text)) refl
  behind_notes w id (Draw him room) his n = no_block (Draw him room) (reply_to w (Draw him room)) refl
  behind_notes w id (RelayDown him) his n = no_block (RelayDown him) (reply_to w (RelayDown him)) refl
  behind_notes w id (Leave him) his n = no_block (Leave him) (reply_to w (Leave him)) refl

  -- a client that feeds nothing, and does not ask to, brings nothing
  brings_nothing : (w : World) (past : List Happening) (label id : ℕ) → IsReached w → id ≤ w.station.last_id → AllByRecursion (IsOnIt label id) past
      → Each (IsNoRequest id) (log_on w past label) → FeedsNothing (standing_of w id) → Each NotesNothing (log_on w past label)
  brings_nothing w [] label id r below on h n = tt
  brings_nothing w (x ∷ past) label id r below on h n =
      by_label (brings_nothing (world_after w x.event) past label id (reached_after settings lists fits adds steps w x.event r)
      (last_stays settings lists fits adds steps w x.event id r below) on.1) (is_same_number label x.label) refl h where
        by_label : (Each (IsNoRequest id) (log_on (world_after w x.event) past label) → FeedsNothing (standing_of (world_after w x.event) id)
            → Each NotesNothing (log_on (world_after w x.event) past label))
            → (b : Bool) → is_same_number label x.label ≡ b
            → Each (IsNoRequest id) ((if b then applied_entry w x.event ∷ [] else []) ++ log_on (world_after w x.event) past label)
            → Each NotesNothing ((if b then applied_entry w x.event ∷ [] else []) ++ log_on (world_after w x.event) past label)
        by_label ih true e k = (behind_notes w id x.event k.0 n, ih k.1 (step_nothing w x.event id r below (λ his. k.0) n))
        by_label ih false e k = ih k (step_nothing w x.event id r below (λ his. let no : true ≡ false = sym (on.0 his) ∙ e in cc) n)

  -- a source brings a front of what it pushes
  module _ (w : World) (event : Event) (id : ℕ) (log : List Entry) (his : IsBehindRequest id event)
      (orderly : IsCut (applied_entry w event ∷ log)) (silent : FeedsNothing (standing_of w id) → Each NotesNothing log) (later : Front log) where
    goes_on_so : noted_block (reply_to w event) event ≡ pushed_by event → Front (applied_entry w event ∷ log)
    goes_on_so e = record {
      rest = later.rest;
      is_front = ap (λ (xs : List ℕ). xs ++ noted log ++ later.rest) e
          ∙ append_assoc (pushed_by event) (noted log) later.rest ∙ ap (λ (xs : List ℕ). pushed_by event ++ xs) later.is_front;
    }

    stops_so : noted_block (reply_to w event) event ≡ [] → Each NotesNothing log → Front (applied_entry w event ∷ log)
    stops_so e none = record {
      rest = pushed (events_of (applied_entry w event ∷ log));
      is_front = ap (λ (xs : List ℕ). xs ++ noted log ++ pushed (events_of (applied_entry w event ∷ log))) e
          ∙ ap (λ (xs : List ℕ). xs ++ pushed (events_of (applied_entry w event ∷ log))) (nothing_noted log none);
    }

    by_push : (him : ℕ) (block : List ℕ) → event ≡ Push him block → (r : Reply) → reply_to w event ≡ r → PushReply w him r → him ≡ id
        → Front (applied_entry w event ∷ log)
    by_push him block e (Arrived other) d h same = elim h [ ]
    by_push him block e Feeding d h same = elim h [ ]
    by_push him block e (Seated interval head) d h same = elim h [ ]
    by_push him block e (Drawn bytes title) d h same = elim h [ ]
    by_push him block e (Text text) d h same = elim h [ ]
    by_push him block e Noted d (PushIsNoted mount feeds) same = goes_on_so (ap (λ (x : Reply). noted_block x event) d)
    by_push him block e (Finished rule) d (PushIsLast _) same =
        stops_so (ap (λ (x : Reply). noted_block x event) d) (going_notes log (orderly.0 (subst IsRefusal (sym d) tt)))
    by_push him block e (Deny rule) d (PushIsDenied _) same =
        stops_so (ap (λ (x : Reply). noted_block x event) d) (going_notes log (orderly.0 (subst IsRefusal (sym d) tt)))
    by_push him block e Stray d PushIsStray same =
        stops_so (ap (λ (x : Reply). noted_block x event) d) (silent (feeds_none (standing_of w id) refl)) where
          feeds_none : (s : Standing) → standing_of w id ≡ s → FeedsNothing s
          feeds_none (Feeds mount) f =
              feeds_push w him block mount (ap (standing_of w) same ∙ f) (ap (reply_to w) (sym e) ∙ d)
          feeds_none Unknown f = tt
          feeds_none (Undecided peer) f = tt
          feeds_none Sits f = tt
          feeds_none Answered f = tt
          feeds_none (HasFinished rule) f = tt

  one_more : (w : World) (event : Event) (id : ℕ) (log : List Entry) → IsBehindRequest id event → IsCut (applied_entry w event ∷ log)
      → (FeedsNothing (standing_of w id) → Each NotesNothing log) → Front log → Front (applied_entry w event ∷ log)
  one_more w (Arrive peer) id log his orderly silent later = elim his [ ]
  one_more w (Source asked) id log his orderly silent later = elim his [ ]
  one_more w (Listen asked) id log his orderly silent later = elim his [ ]
  one_more w (Command asked) id log his orderly silent later = elim his [ ]
  one_more w (RelayUp mount shown) id log his orderly silent later = elim his [ ]
  one_more w (Clock ms) id log his orderly silent later = elim his [ ]
  one_more w (Push him block) id log his orderly silent later =
      by_push w (Push him block) id log his orderly silent later him block refl (reply_to w (Push him block)) refl (push_reply w him block) his
  one_more w (SourceEnd him) id log his orderly silent later =
      goes_on_so w (SourceEnd him) id log his orderly silent later (no_block (SourceEnd him) (reply_to w (SourceEnd him)) refl)
  one_more w (Title him text) id log his orderly silent later =
      goes_on_so w (Title him text) id log his orderly silent later (no_block (Title him text) (reply_to w (Title him text)) refl)
  one_more w (Draw him room) id log his orderly silent later =
      goes_on_so w (Draw him room) id log his orderly silent later (no_block (Draw him room) (reply_to w (Draw him room)) refl)
  one_more w (RelayDown him) id log his orderly silent later =
      goes_on_so w (RelayDown him) id log his orderly silent later (no_block (RelayDown him) (reply_to w (RelayDown him)) refl)
  one_more w (Leave him) id log his orderly silent later =
      goes_on_so w (Leave him) id log his orderly silent later (no_block (Leave him) (reply_to w (Leave him)) refl)

  pub brings_front : (w : World) (past : List Happening) (label id : ℕ) → IsReached w → id ≤ w.station.last_id → AllByRecursion (IsOnIt label id) past
      → Each (IsNoRequest id) (log_on w past label) → IsCut (log_on w past label) → Front (log_on w past label)
  brings_front w [] label id r below on h o = record { rest = []; is_front = refl }
  brings_front w (x ∷ past) label id r below on h o =
      by_label (brings_front (world_after w x.event) past label id (reached_after settings lists fits adds steps w x.event r)
      (last_stays settings lists fits adds steps w x.event id r below) on.1) (is_same_number label x.label) h o where
        by_label : (Each (IsNoRequest id) (log_on (world_after w x.event) past label) → IsCut (log_on (world_after w x.event) past label)
            → Front (log_on (world_after w x.event) past label))
            → (b : Bool) → Each (IsNoRequest id) ((if b then applied_entry w x.event ∷ [] else []) ++ log_on (world_after w x.event) past label)
            → IsCut ((if b then applied_entry w x.event ∷ [] else []) ++ log_on (world_after w x.event) past label)
            → Front ((if b then applied_entry w x.event ∷ [] else []) ++ log_on (world_after w x.event) past label)
        by_label ih true k p =
            one_more w x.event id (log_on (world_after w x.event) past label) k.0 p
            (λ n. brings_nothing (world_after w x.event) past label id (reached_after settings lists fits adds steps w x.event r)
            (last_stays settings lists fits adds steps w x.event id r below) on.1 k.1 (step_nothing w x.event id r below (λ his. k.0) n))
            (ih k.1 p.1)
        by_label ih false k p = ih k p

  -- a number that was given is at most the last
  last_stays_all : (w : World) (events : List Event) (id : ℕ) → IsReached w → id ≤ w.station.last_id → id ≤ (world_after_all w events).station.last_id
  last_stays_all w [] id r below = below
  last_stays_all w (event ∷ events) id r below =
      last_stays_all (world_after w event) events id (reached_after settings lists fits adds steps w event r)
      (last_stays settings lists fits adds steps w event id r below)

  pub given_before : (w : World) (past : List Happening) (label id : ℕ) → IsReached w → HasNumber id (log_on w past label)
      → id ≤ (world_after_all w (events_in past)).station.last_id
  given_before w [] label id r h = elim h [ ]
  given_before w (x ∷ past) label id r h =
      by_label (given_before (world_after w x.event) past label id (reached_after settings lists fits adds steps w x.event r)) (is_same_number label x.label) h where
        by_label : (HasNumber id (log_on (world_after w x.event) past label) → id ≤ (world_after_all (world_after w x.event) (events_in past)).station.last_id)
            → (b : Bool) → HasNumber id ((if b then applied_entry w x.event ∷ [] else []) ++ log_on (world_after w x.event) past label)
            → id ≤ (world_after_all (world_after w x.event) (events_in past)).station.last_id
        by_label ih true (inl e) =
            last_stays_all (world_after w x.event) (events_in past) id (reached_after settings lists fits adds steps w x.event r)
            (given_here settings lists fits adds steps w x.event id r e)
        by_label ih true (inr k) = ih k
        by_label ih false k = ih k
