-- Each relay of a script delivers a front of the sound that its master's answer pulls in.
use Rattle.std.proofs.Common.{◌≡◌, inl, inr, ℕ, Bool, true, false, List, [], ◌∷◌, ◌++◌, drop, Option, None, Some, Ok, refl, sym, ap, subst, ◌∙◌, append_assoc}
use Rattle.radio_headline.proofs.Words.{if◌then◌else◌, AllByRecursion, Shown, Settings, Lists, Entry, Event, Arrive, Source, Push, SourceEnd, Title, Listen, Draw, Command, Leave, RelayUp, RelayDown, Clock, Reply}
use Rattle.radio_headline.proofs.Words.{Arrived, client_in, ClientsStep, delivered, RepliesFit, run_after, reply_to, world_after, AddsUp, World, opening, Whole, RequestParts, shown_in_response, ShownPart}
use Rattle.radio_headline.proofs.Words.{pulled_by_interval, stream_parts, stream_pulled, stream_with, asks_by_get, asks_to_hear, gives_command, is_for_commands, path_in, state_after_reply, Happening, events_in, on}
use Rattle.radio_headline.proofs.Words.{applied_entry, log_on, DeliversItsSound, RelaysDeliverTheirSound, pushed, WebAnswers}
use Rattle.radio_headline.proofs.Gathered.{IsOnIt}
use Rattle.radio_headline.proofs.Logs.{log_parted, Each, each_as, each_joined}
use Rattle.radio_headline.proofs.Relays.RelayWords.{IsCut, IsNoUp, OfRelay, OwnRelay, number_stays}
use Rattle.radio_headline.proofs.RunLemmas.{AllNowhere, IsMoment, HasNumber, IsIdling, Reached, given_here, reached_after, reached_all, reached_opening}
use Rattle.radio_headline.proofs.Connections.{AsksForMount, AsksNothing, ByGet, Facts, Feeds, HasAskedNothing, HasSentGet, IsClosed}
use Rattle.radio_headline.proofs.Connections.{IsBehindRequest, IsIdleOrLeaving, IsNoRequest, IsPulling, IsSource, Pulls, events_of}
use Rattle.radio_headline.proofs.ClientEvents.{behind_is_his, idle_asks_nothing}
use Rattle.radio_headline.proofs.ListenerLemmas.{on_his}
use Rattle.radio_headline.proofs.SourceLemmas.{Front, IsHisOrNotesNothing, brings_front, delivered_gathered, no_block, noted}
use Rattle.radio_headline.proofs.Partings.{none_there}

-- by this event a relay comes up
abbrev IsUp : Event → Type 0
IsUp (RelayUp mount shown) = Unit {0}
IsUp event = ⊥

abbrev UpNot : Entry → Type 0
UpNot e = IsUp e.event → ⊥

up_asks : (event : Event) → IsUp event → AsksForMount event
up_asks (Arrive peer) h = elim h [ ]
up_asks (Source asked) h = elim h [ ]
up_asks (Push him block) h = elim h [ ]
up_asks (SourceEnd him) h = elim h [ ]
up_asks (Title him text) h = elim h [ ]
up_asks (Listen asked) h = elim h [ ]
up_asks (Draw him room) h = elim h [ ]
up_asks (Command asked) h = elim h [ ]
up_asks (Leave him) h = elim h [ ]
up_asks (RelayDown him) h = elim h [ ]
up_asks (Clock ms) h = elim h [ ]
up_asks (RelayUp mount shown) h = tt

none_asked : (log : List Entry) → Each AsksNothing log → Each UpNot log
none_asked log h = each_as AsksNothing UpNot (λ e f l. f (up_asks e.event l)) log h

idle_up_not : (id : ℕ) (e : Entry) → IsIdling id e → UpNot e
idle_up_not id e h l = idle_asks_nothing id e.event h (up_asks e.event l)

leaving_up_not : (id : ℕ) (e : Entry) → IsIdleOrLeaving id e → UpNot e
leaving_up_not id e (inl h) l = idle_up_not id e h l
leaving_up_not id e (inr h) l = subst IsUp h l

-- the event of a client is no relay's coming
his_up_not : (id : ℕ) (event : Event) → client_in event ≡ Some id → IsUp event → ⊥
his_up_not id (RelayUp mount shown) e l = cc
his_up_not id (Arrive peer) e l = elim l [ ]
his_up_not id (Source asked) e l = elim l [ ]
his_up_not id (Push him block) e l = elim l [ ]
his_up_not id (SourceEnd him) e l = elim l [ ]
his_up_not id (Title him text) e l = elim l [ ]
his_up_not id (Listen asked) e l = elim l [ ]
his_up_not id (Draw him room) e l = elim l [ ]
his_up_not id (Command asked) e l = elim l [ ]
his_up_not id (Leave him) e l = elim l [ ]
his_up_not id (RelayDown him) e l = elim l [ ]
his_up_not id (Clock ms) e l = elim l [ ]

get_up_not : (web : WebAnswers) (id : ℕ) (request : RequestParts) → IsUp (asks_by_get web id request) → ⊥
get_up_not web id request l = by_kind (is_for_commands (path_in request)) l where
  by_kind : (b : Bool) → IsUp (if b then gives_command web id request (path_in request) else asks_to_hear web id request (path_in request)) → ⊥
  by_kind true h = h
  by_kind false h = h

get_not : (web : WebAnswers) (bytes : List ℕ) (log : List Entry) (given : List ℕ) → ByGet web bytes log given → Each UpNot log
get_not web bytes log given g =
    subst (Each UpNot) (sym g.in_order) (
      (λ l. l),
      each_joined UpNot g.idle _ (each_as (IsIdling g.id) UpNot (idle_up_not g.id) g.idle g.idles)
          (get_up_not web g.id g.request, each_as (IsIdleOrLeaving g.id) UpNot (leaving_up_not g.id) g.behind g.no_more),
    )

source_not : (bytes : List ℕ) (log : List Entry) → Feeds bytes log → Each UpNot log
source_not bytes log f =
    subst (Each UpNot) (sym f.in_order) (
      (λ l. l),
      each_joined UpNot f.idle _ (each_as (IsIdling f.id) UpNot (idle_up_not f.id) f.idle f.idles)
          ((λ l. l), each_as (IsNoRequest f.id) UpNot (λ e h. his_up_not f.id e.event (behind_is_his f.id e.event h)) f.behind f.no_more),
    )

-- if a relay has come up, its master's answer was read
module _ (web : WebAnswers) (bytes : List ℕ) (log : List Entry) (given : List ℕ) (before behind : List Entry) (e : Entry) (parts : log ≡ before ++ e ∷ behind)
    (up : IsUp e.event) where
  never : {A : Type 0} → Each UpNot log → A
  never h = absurd (none_there IsUp before behind e (subst (Each UpNot) parts h) up)

  pulls_so : Facts web bytes log given → Pulls bytes log
  pulls_so (HasAskedNothing h) = never (none_asked log h)
  pulls_so (HasSentGet g) = never (get_not web bytes log given g)
  pulls_so (IsSource f told) = never (source_not bytes log f)
  pulls_so (IsPulling p) = p

-- it is the first of its log
record IsFirst (before : List Entry) (e a : Entry) (cs ds : List Entry) : Type 0 where
  pub before_none : before ≡ []
  pub here : e ≡ a
  pub behind : cs ≡ ds

no_up_not : (ds : List Entry) → Each (λ e. IsNoUp e.event) ds → Each UpNot ds
no_up_not [] h = tt
no_up_not (d ∷ ds) h = (by_event d.event h.0, no_up_not ds h.1) where
  by_event : (event : Event) → IsNoUp event → IsUp event → ⊥
  by_event (RelayUp mount shown) n l = n
  by_event (Arrive peer) n l = elim l [ ]
  by_event (Source asked) n l = elim l [ ]
  by_event (Push him block) n l = elim l [ ]
  by_event (SourceEnd him) n l = elim l [ ]
  by_event (Title him text) n l = elim l [ ]
  by_event (Listen asked) n l = elim l [ ]
  by_event (Draw him room) n l = elim l [ ]
  by_event (Command asked) n l = elim l [ ]
  by_event (Leave him) n l = elim l [ ]
  by_event (RelayDown him) n l = elim l [ ]
  by_event (Clock ms) n l = elim l [ ]

is_first : (before cs ds : List Entry) (e a : Entry) → before ++ e ∷ cs ≡ a ∷ ds → IsUp e.event → Each UpNot ds → IsFirst before e a cs ds
is_first [] cs ds e a h l later = record { before_none = refl; here = cc; behind = cc }
is_first (x ∷ before) cs ds e a h l later =
    let others : before ++ e ∷ cs ≡ ds = cc in
    absurd (none_there IsUp before cs e (subst (Each UpNot) (sym others) later) l)

-- the events behind it are of this relay
own_his : (number : ℕ) (log : List Entry) → OwnRelay (Some number) log → Each (λ e. IsNoUp e.event) log → Each (IsNoRequest number) log
own_his number [] own plain = tt
own_his number (e ∷ log) own plain =
    (by_event e.event own.0 plain.0, own_his number log (subst (λ (n : Option ℕ). OwnRelay n log) (number_stays number e.reply) own.1) plain.1) where
      by_event : (event : Event) → OfRelay (Some number) event → IsNoUp event → IsBehindRequest number event
      by_event (Arrive peer) h n = elim h [ ]
      by_event (Source asked) h n = elim h [ ]
      by_event (SourceEnd him) h n = elim h [ ]
      by_event (Listen asked) h n = elim h [ ]
      by_event (Command asked) h n = elim h [ ]
      by_event (Leave him) h n = elim h [ ]
      by_event (Clock ms) h n = elim h [ ]
      by_event (RelayUp mount shown) h n = elim n [ ]
      by_event (Push him block) h n = cc
      by_event (Title him text) h n = cc
      by_event (Draw him room) h n = cc
      by_event (RelayDown him) h n = cc

module _ (web : WebAnswers) (settings : Settings) (lists : Lists)
    (fits : (events : List Event) (event : Event) → RepliesFit (run_after settings lists events) event)
    (adds : (events : List Event) (event : Event) → AddsUp (run_after settings lists events) event)
    (steps : (events : List Event) (event : Event) → ClientsStep (run_after settings lists events) event)
    (brought given : ℕ → List ℕ) (course : List Happening)
    (each : (label : ℕ) → IsClosed web (brought label) (log_on (opening settings lists) course label) (given label))
    (nowhere : AllNowhere (λ h. IsMoment h.event) course) where
  abbrev w0 : World
  w0 = opening settings lists

  abbrev log : ℕ → List Entry
  log label = log_on w0 course label

  module _ (label : ℕ) (mount : List ℕ) (shown : Shown) (number : ℕ) (past later : List Happening)
      (parts : course ≡ past ++ on label (RelayUp mount shown) ∷ later)
      (arrived : reply_to (run_after settings lists (events_in past)) (RelayUp mount shown) ≡ Arrived number) where
    abbrev w : World
    w = run_after settings lists (events_in past)

    abbrev event : Event
    event = RelayUp mount shown

    abbrev before : List Entry
    before = log_on w0 past label

    abbrev behind : List Entry
    behind = log_on (world_after w event) later label

    in_order : log label ≡ before ++ applied_entry w event ∷ behind
    in_order = ap (λ (hs : List Happening). log_on w0 hs label) parts ∙ log_parted w0 past later label event

    whole : Pulls (brought label) (log label)
    whole = pulls_so web (brought label) (log label) (given label) before behind (applied_entry w event) in_order tt (each label).facts

    first : IsFirst before (applied_entry w event) (record { event = RelayUp whole.mount (shown_in_response whole.head); reply = whole.reply }) behind whole.behind
    first = is_first before behind whole.behind (applied_entry w event) _ (sym in_order ∙ whole.in_order) tt (no_up_not whole.behind whole.no_more)

    reached_here : Reached settings lists fits adds steps w
    reached_here = reached_all settings lists fits adds steps w0 (events_in past) (reached_opening settings lists fits adds steps)

    has_number : HasNumber number (log label)
    has_number = subst (HasNumber number) (sym (in_order ∙ ap (λ (xs : List Entry). xs ++ applied_entry w event ∷ behind) first.before_none)) (inl arrived)

    on_it : AllByRecursion (IsOnIt label number) course
    on_it = on_his web settings lists fits adds steps brought given course each nowhere label number has_number

    all_second : (P : Happening → Type 0) (xs ys : List Happening) → AllByRecursion P (xs ++ ys) → AllByRecursion P ys
    all_second P [] ys h = h
    all_second P (x ∷ xs) ys h = all_second P xs ys h.1

    on_it_later : AllByRecursion (IsOnIt label number) later
    on_it_later = (all_second (IsOnIt label number) past (on label event ∷ later) (subst (AllByRecursion (IsOnIt label number)) parts on_it)).1

    reply_so : whole.reply ≡ Arrived number
    reply_so = sym (ap (λ (x : Entry). x.reply) first.here) ∙ arrived

    own_behind : OwnRelay (Some number) behind
    own_behind =
        let own = (subst (OwnRelay None) whole.in_order whole.own).1 in
        subst (OwnRelay (Some number)) (sym first.behind)
        (subst (λ (r : Reply). OwnRelay (state_after_reply None r).number whole.behind) reply_so own)

    his_behind : Each (IsNoRequest number) behind
    his_behind = own_his number behind own_behind (subst (Each (λ e. IsNoUp e.event)) (sym first.behind) whole.no_more)

    cut_behind : IsCut behind
    cut_behind = subst IsCut (sym first.behind) (subst IsCut whole.in_order whole.cut).1

    front : Front behind
    front =
        brings_front settings lists fits adds steps (world_after w event) later label number
        (reached_after settings lists fits adds steps w event reached_here) (given_here settings lists fits adds steps w event number reached_here arrived)
        on_it_later his_behind cut_behind

    all_noted : delivered w0 (events_in course) number ≡ noted behind
    all_noted =
        delivered_gathered w0 course label number on_it his_or_not
        ∙ ap noted (in_order ∙ ap (λ (xs : List Entry). xs ++ applied_entry w event ∷ behind) first.before_none)
        ∙ ap (λ (xs : List ℕ). xs ++ noted behind) (no_block event (reply_to w event) refl) where
          his_or_not : Each (IsHisOrNotesNothing number) (log label)
          his_or_not = subst (Each (IsHisOrNotesNothing number)) (sym (in_order ∙ ap (λ (xs : List Entry). xs ++ applied_entry w event ∷ behind) first.before_none)) (
            inr (no_block event (reply_to w event) refl),
            each_as (IsNoRequest number) (IsHisOrNotesNothing number) (λ e h. inl (behind_is_his number e.event h)) behind his_behind,
          )

    shown_so : shown ≡ shown_in_response whole.head
    shown_so =
        let both : RelayUp mount shown ≡ RelayUp whole.mount (shown_in_response whole.head) = ap (λ (x : Entry). x.event) first.here in cc

    its_sound : DeliversItsSound settings lists brought course label number shown
    its_sound =
        let answer = stream_pulled (ShownPart (shown_in_response whole.head) ∷ []) (stream_with whole.interval) (drop whole.length (brought label)) in
        record {
          pulled = answer;
          is_pulled = (Ok (Whole whole.head whole.length), whole.reading, ap (pulled_by_interval whole.head (drop whole.length (brought label))) (sym whole.told));
          parts = stream_parts (stream_with whole.interval) (drop whole.length (brought label));
          begins = ap (λ (s : Shown). ShownPart s ∷ stream_parts (stream_with whole.interval) (drop whole.length (brought label))) (sym shown_so);
          undelivered = front.rest ++ whole.rest;
          is_front =
              sym whole.front
              ∙ ap (λ (es : List Entry). pushed (events_of es) ++ whole.rest) (sym first.behind)
              ∙ ap (λ (xs : List ℕ). xs ++ whole.rest) (sym front.is_front)
              ∙ append_assoc (noted behind) front.rest whole.rest
              ∙ ap (λ (xs : List ℕ). xs ++ (front.rest ++ whole.rest)) (sym all_noted);
        }

  pub delivers_sound : RelaysDeliverTheirSound settings lists brought course
  delivers_sound label mount shown number past later parts arrived = its_sound label mount shown number past later parts arrived
