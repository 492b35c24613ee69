-- Each source of a script delivers a front of the data of its body.
use Rattle.std.proofs.Common.{◌≡◌, inl, inr, ℕ, Bool, true, false, List, [], ◌∷◌, ◌++◌, drop, Option, None, Some, Ok, refl, sym, ap, subst, ◌∙◌, append_assoc}
use Rattle.radio_headline.proofs.Words.{codes, if◌then◌else◌, option_map, AllByRecursion, concat, bytes_eq, flat_map-append, blocks_of, Settings, Lists, BadMethod, Entry, Event, Arrive, Source, Push, SourceEnd, Title}
use Rattle.radio_headline.proofs.Words.{Listen, Draw, Command, Leave, RelayUp, RelayDown, Clock, ListenRequest, SourceRequest, client_in, ClientsStep, delivered, RepliesFit, run_after, reply_to, world_after, AddsUp}
use Rattle.radio_headline.proofs.Words.{World, opening, Whole, RequestParts, ShowsRequest, IsStableReading, HeadsLieWithin, Place, after, data_of, has_ended, fault_at, asks_by_get, asks_to_feed, asks_to_hear}
use Rattle.radio_headline.proofs.Words.{gives_command, is_for_commands, path_in, Conversation, asking, fresh, is_source, framing_of, greeting_of, start_of, EventReading, body_closes, body_heard, get_heard, greeted}
use Rattle.radio_headline.proofs.Words.{refuses, request_heard, source_heard, Reply, Deny, Feeding, Finished, DenialsAreThePolicys, Says, denial, greeting_text, said, SourceIsAnswered, append-nil, Happening, events_in}
use Rattle.radio_headline.proofs.Words.{on, applied_entry, log_on, DeliversItsBody, IsRequest, pushed, WebAnswers}
use Rattle.radio_session.specs.declared.session.Greeting.{Greeting}
use Rattle.radio_headline.proofs.Greetings.{greeted_says}
use Rattle.radio_headline.proofs.Gathered.{IsOnIt}
use Rattle.radio_headline.proofs.Logs.{log_parted, Each, each_as, each_joined}
use Rattle.radio_headline.proofs.AppliedLemmas.{IsLast, IsOrderly}
use Rattle.radio_headline.proofs.RunLemmas.{AllNowhere, IsMoment, HasNumber, IsIdling, are_on_first, arrives_and_idles, last_stays, reached_opening, reached_after, reached_all}
use Rattle.radio_headline.proofs.Connections.{arrival, AsksForMount, AsksNothing, ByGet, Feeds, IsIdleOrLeaving, IsBehindRequest, IsNoRequest, events_of}
use Rattle.radio_headline.proofs.Connections.{Facts, HasAskedNothing, HasSentGet, IsClosed, IsSource, IsPulling, IsGreeted}
use Rattle.radio_headline.proofs.HeardLemmas.{delivers_by}
use Rattle.radio_headline.proofs.ClientEvents.{behind_is_his, idle_asks_nothing, idle_pushes_nothing}
use Rattle.radio_headline.proofs.Relays.RelayWords.{OwnRelay, relay_asks_not}
use Rattle.radio_headline.proofs.ListenerLemmas.{on_his}
use Rattle.radio_headline.proofs.GetLogs.{Waited, waited, by_get, get_is_of, orderly_second, parted_at_get}
use Rattle.radio_headline.proofs.SourceLemmas.{orderly_is_cut, Front, IsHisOrNotesNothing, NotesNothing, brings_front, delivered_gathered, given_before, no_block, noted, noted_of, nothing_noted}
use Rattle.radio_headline.proofs.Partings.{Parted, none_there, parted}

-- by this event a mount is asked for, to feed it
abbrev IsSourcing : Event → Type 0
IsSourcing (Source asked) = Unit {0}
IsSourcing event = ⊥

abbrev FeedsNot : Entry → Type 0
FeedsNot e = IsSourcing e.event → ⊥

sourcing_asks : (event : Event) → IsSourcing event → AsksForMount event
sourcing_asks (Arrive peer) h = elim h [ ]
sourcing_asks (Push him block) h = elim h [ ]
sourcing_asks (SourceEnd him) h = elim h [ ]
sourcing_asks (Title him text) h = elim h [ ]
sourcing_asks (Listen asked) h = elim h [ ]
sourcing_asks (Draw him room) h = elim h [ ]
sourcing_asks (Command asked) h = elim h [ ]
sourcing_asks (Leave him) h = elim h [ ]
sourcing_asks (RelayUp mount shown) h = elim h [ ]
sourcing_asks (RelayDown him) h = elim h [ ]
sourcing_asks (Clock ms) h = elim h [ ]
sourcing_asks (Source asked) h = tt

nothing_fed : (log : List Entry) → Each AsksNothing log → Each FeedsNot log
nothing_fed log h = each_as AsksNothing FeedsNot (λ e f l. f (sourcing_asks e.event l)) log h

idle_feeds_not : (id : ℕ) (e : Entry) → IsIdling id e → FeedsNot e
idle_feeds_not id e h l = idle_asks_nothing id e.event h (sourcing_asks e.event l)

leaving_feeds_not : (id : ℕ) (e : Entry) → IsIdleOrLeaving id e → FeedsNot e
leaving_feeds_not id e (inl h) l = idle_feeds_not id e h l
leaving_feeds_not id e (inr h) l = subst IsSourcing h l

behind_feeds_not : (id : ℕ) (event : Event) → IsBehindRequest id event → IsSourcing event → ⊥
behind_feeds_not id (Arrive peer) h l = elim h [ ]
behind_feeds_not id (Source asked) h l = elim h [ ]
behind_feeds_not id (Listen asked) h l = elim h [ ]
behind_feeds_not id (Command asked) h l = elim h [ ]
behind_feeds_not id (RelayUp mount shown) h l = elim h [ ]
behind_feeds_not id (RelayDown him) h l = l
behind_feeds_not id (Clock ms) h l = elim h [ ]
behind_feeds_not id (Push him block) h l = l
behind_feeds_not id (SourceEnd him) h l = l
behind_feeds_not id (Title him text) h l = l
behind_feeds_not id (Draw him room) h l = l
behind_feeds_not id (Leave him) h l = l

get_feeds_not : (web : WebAnswers) (id : ℕ) (request : RequestParts) → IsSourcing (asks_by_get web id request) → ⊥
get_feeds_not web id request l = by_kind (is_for_commands (path_in request)) l where
  by_kind : (b : Bool) → IsSourcing (if b then gives_command web id request (path_in request) else asks_to_hear web id request (path_in request)) → ⊥
  by_kind true h = h
  by_kind false h = h

get_not : (web : WebAnswers) (bytes : List ℕ) (log : List Entry) (given : List ℕ) → ByGet web bytes log given → Each FeedsNot log
get_not web bytes log given g =
    subst (Each FeedsNot) (sym g.in_order) (
      (λ l. l),
      each_joined FeedsNot g.idle _ (each_as (IsIdling g.id) FeedsNot (idle_feeds_not g.id) g.idle g.idles)
          (get_feeds_not web g.id g.request, each_as (IsIdleOrLeaving g.id) FeedsNot (leaving_feeds_not g.id) g.behind g.no_more),
    )

-- a relay asks for no mount
relay_feeds_not : (log : List Entry) → OwnRelay None log → Each FeedsNot log
relay_feeds_not log own = relay_asks_not IsSourcing (λ mount shown a. a) (λ id block a. a) (λ id text a. a) (λ id room a. a) (λ id a. a) None log own

-- if a client asks to feed a mount, a source's request was read
module _ (web : WebAnswers) (bytes : List ℕ) (log : List Entry) (given : List ℕ) (before behind : List Entry) (e : Entry) (parts : log ≡ before ++ e ∷ behind)
    (feeds : IsSourcing e.event) where
  -- it feeds, and has read the reply that says so
  abbrev FeedsGreeted : Type 0
  FeedsGreeted = (f : Feeds bytes log) × IsGreeted web f given

  never : {A : Type 0} → Each FeedsNot log → A
  never h = absurd (none_there IsSourcing before behind e (subst (Each FeedsNot) parts h) feeds)

  feeds_so : Facts web bytes log given → FeedsGreeted
  feeds_so (HasAskedNothing h) = never (nothing_fed log h)
  feeds_so (HasSentGet g) = never (get_not web bytes log given g)
  feeds_so (IsSource f told) = (f, told)
  feeds_so (IsPulling q) = never (relay_feeds_not log q.own)

-- a source's request, as it is read with the bytes after it
framed_so : {F : Type 0} (start_at : F → Place) (hears : Option F → EventReading) (body : Place → EventReading) → ((f : F) → hears (Some f) ≡ body (start_at f))
    → (framing : Option F) (start : Place) → option_map start_at framing ≡ Some start → hears framing ≡ body start
framed_so start_at hears body some None start e = cc
framed_so start_at hears body some (Some f) start e = let same : start_at f ≡ start = cc in some f ∙ ap body same

source_so : (conversation : Conversation) (request : RequestParts) (behind : List ℕ) (start : Place) → is_source request ≡ true
    → option_map start_of (framing_of request) ≡ Some start
    → request_heard conversation request behind ≡ body_heard (greeted conversation request) (asks_to_feed conversation.id request ∷ []) start behind
source_so conversation request behind start source framed =
    ap (λ (b : Bool). if b then source_heard conversation request behind (framing_of request)
    else if bytes_eq request.method (codes "GET") then get_heard conversation request else refuses conversation BadMethod) source
    ∙ framed_so start_of (source_heard conversation request behind)
    (λ place. body_heard (greeted conversation request) (asks_to_feed conversation.id request ∷ []) place behind) (λ f. refl) (framing_of request) start framed

get_so : (conversation : Conversation) (request : RequestParts) (behind : List ℕ) → is_source request ≡ false
    → bytes_eq request.method (codes "GET") ≡ true → request_heard conversation request behind ≡ get_heard conversation request
get_so conversation request behind source get =
    ap (λ (b : Bool). if b then source_heard conversation request behind (framing_of request)
    else if bytes_eq request.method (codes "GET") then get_heard conversation request else refuses conversation BadMethod) source
    ∙ ap (λ (b : Bool). if b then get_heard conversation request else refuses conversation BadMethod) get

module _ (web : WebAnswers) (settled : IsStableReading ShowsRequest) (within : HeadsLieWithin ShowsRequest) (joined : (bytes : List ℕ) → concat (blocks_of bytes) ≡ bytes)
    (places : (place : Place) (first second : List ℕ) → after place (first ++ second) ≡ after (after place first) second)
    (data_joined : (place : Place) (first second : List ℕ) → data_of place (first ++ second) ≡ data_of place first ++ data_of (after place first) second) where
  -- a source's bytes are read as its request, and the data of its body after it
  record HeardBody (bytes : List ℕ) (log : List Entry) (f : Feeds bytes log) : Type 0 where
    pub behind : List Event
    pub is_request : IsRequest bytes f.id (asks_to_feed f.id f.request) behind
    pub content : pushed behind ≡ data_of f.start (drop f.length bytes)
    pub greets : is_request.heard.conversation.says.greeting ≡ greeting_of f.request

  heard_body : (bytes : List ℕ) (log : List Entry) (f : Feeds bytes log) → HeardBody bytes log f
  heard_body bytes log f =
      let c = fresh web f.id f.peer in
      let rest = drop f.length bytes in
      let d = delivers_by settled within joined places data_joined (greeted c f.request) (asks_to_feed f.id f.request ∷ []) f.start rest
      (body_closes (has_ended (after f.start rest)) (fault_at (after f.start rest))) in
      record {
        behind = d.asked;
        is_request = record {
          web = web;
          peer = f.peer;
          heard = request_heard c f.request rest;
          is_heard = (Ok (Whole f.request f.length), f.reading, refl);
          begins = ap (λ (x : EventReading). x.events) (source_so c f.request rest f.start f.source f.framed) ∙ d.events;
        };
        content = d.content;
        greets = ap (λ (x : EventReading). x.conversation.says.greeting) (source_so c f.request rest f.start f.source f.framed) ∙ ap (λ (s : Says). s.greeting) d.says;
      }

  -- and a listener's bytes are read as its request
  pub heard_get : (bytes : List ℕ) (log : List Entry) (given : List ℕ) (g : ByGet web bytes log given) → IsRequest bytes g.id (asks_by_get web g.id g.request) []
  heard_get bytes log given g =
      let c = fresh web g.id g.peer in
      record {
        web = web;
        peer = g.peer;
        heard = request_heard c g.request (drop g.length bytes);
        is_heard = (Ok (Whole g.request g.length), g.reading, refl);
        begins = ap (λ (x : EventReading). x.events) (get_so c g.request (drop g.length bytes) g.no_source g.is_get);
      }

  module _ (settings : Settings) (lists : Lists)
      (fits : (events : List Event) (event : Event) → RepliesFit (run_after settings lists events) event)
      (adds : (events : List Event) (event : Event) → AddsUp (run_after settings lists events) event)
      (steps : (events : List Event) (event : Event) → ClientsStep (run_after settings lists events) event)
      (brought given : ℕ → List ℕ) (course : List Happening)
      (each : (label : ℕ) → IsClosed web (brought label) (log_on (opening settings lists) course label) (given label))
      (nowhere : AllNowhere (λ h. IsMoment h.event) course) where
    abbrev w0 : World
    w0 = opening settings lists

    abbrev log : ℕ → List Entry
    log label = log_on w0 course label

    module _ (label : ℕ) (asked : SourceRequest) (past later : List Happening) (parts : course ≡ past ++ on label (Source asked) ∷ later) where
      abbrev w : World
      w = run_after settings lists (events_in past)

      abbrev before : List Entry
      before = log_on w0 past label

      abbrev behind : List Entry
      behind = log_on (world_after w (Source asked)) later label

      in_order : log label ≡ before ++ applied_entry w (Source asked) ∷ behind
      in_order = ap (λ (hs : List Happening). log_on w0 hs label) parts ∙ log_parted w0 past later label (Source asked)

      feeds_greeted : (f : Feeds (brought label) (log label)) × IsGreeted web f (given label)
      feeds_greeted = feeds_so web (brought label) (log label) (given label) before behind (applied_entry w (Source asked)) in_order tt (each label).facts

      abbrev f : Feeds (brought label) (log label)
      f = feeds_greeted.0

      p : Parted before (arrival f.peer f.id ∷ f.idle) (applied_entry w (Source asked)) (record { event = asks_to_feed f.id f.request; reply = f.reply }) behind f.behind
      p = parted IsSourcing before (arrival f.peer f.id ∷ f.idle) behind f.behind (applied_entry w (Source asked)) _ (sym in_order ∙ f.in_order) tt
          ((λ l. l), each_as (IsIdling f.id) FeedsNot (idle_feeds_not f.id) f.idle f.idles)
          (each_as (IsNoRequest f.id) FeedsNot (λ e h. behind_feeds_not f.id e.event h) f.behind f.no_more)

      same_event : Source asked ≡ asks_to_feed f.id f.request
      same_event = ap (λ (x : Entry). x.event) p.here

      his_number : asked.id ≡ f.id
      his_number = let both : Some asked.id ≡ Some f.id = ap client_in same_event in cc

      has_number_before : HasNumber f.id before
      has_number_before = subst (HasNumber f.id) (sym p.before) (inl refl)

      on_it : AllByRecursion (IsOnIt label f.id) course
      on_it = on_his web settings lists fits adds steps brought given course each nowhere label f.id (subst (HasNumber f.id) (sym f.in_order) (inl refl))

      on_it_later : AllByRecursion (IsOnIt label f.id) later
      on_it_later = (all_second (IsOnIt label f.id) past (on label (Source asked) ∷ later) (subst (AllByRecursion (IsOnIt label f.id)) parts on_it)).1 where
        all_second : (P : Happening → Type 0) (xs ys : List Happening) → AllByRecursion P (xs ++ ys) → AllByRecursion P ys
        all_second P [] ys h = h
        all_second P (x ∷ xs) ys h = all_second P xs ys h.1

      front : Front behind
      front =
          brings_front settings lists fits adds steps (world_after w (Source asked)) later label f.id
          (reached_after settings lists fits adds steps w (Source asked)
          (reached_all settings lists fits adds steps w0 (events_in past) (reached_opening settings lists fits adds steps)))
          (last_stays settings lists fits adds steps w (Source asked) f.id
          (reached_all settings lists fits adds steps w0 (events_in past) (reached_opening settings lists fits adds steps))
          (given_before settings lists fits adds steps w0 past label f.id (reached_opening settings lists fits adds steps) has_number_before))
          on_it_later (subst (Each (IsNoRequest f.id)) (sym p.behind) f.no_more)
          (orderly_is_cut f.id behind (orderly_second f.id before (applied_entry w (Source asked) ∷ behind) (subst (IsOrderly f.id) in_order f.orderly)).1)

      idle_notes : (log : List Entry) → Each (IsIdling f.id) log → Each NotesNothing log
      idle_notes log h = each_as (IsIdling f.id) NotesNothing (λ e i. no_block e.event e.reply (idle_pushes_nothing f.id e.event i)) log h

      notes_before : Each NotesNothing before
      notes_before = subst (Each NotesNothing) (sym p.before) (refl, idle_notes f.idle f.idles)

      notes_here : NotesNothing (applied_entry w (Source asked))
      notes_here = no_block (Source asked) (reply_to w (Source asked)) refl

      all_noted : delivered w0 (events_in course) asked.id ≡ noted behind
      all_noted =
          ap (delivered w0 (events_in course)) his_number
          ∙ delivered_gathered w0 course label f.id on_it his_or_not
          ∙ ap noted in_order
          ∙ flat_map-append noted_of before (applied_entry w (Source asked) ∷ behind)
          ∙ ap (λ (xs : List ℕ). xs ++ noted (applied_entry w (Source asked) ∷ behind)) (nothing_noted before notes_before)
          ∙ ap (λ (xs : List ℕ). xs ++ noted behind) notes_here where
            his_or_not : Each (IsHisOrNotesNothing f.id) (log label)
            his_or_not = subst (Each (IsHisOrNotesNothing f.id)) (sym in_order)
                (each_joined (IsHisOrNotesNothing f.id) before (applied_entry w (Source asked) ∷ behind)
                (each_as NotesNothing (IsHisOrNotesNothing f.id) (λ e n. inr n) before notes_before) (
                  inr notes_here,
                  subst (Each (IsHisOrNotesNothing f.id)) (sym p.behind)
                      (each_as (IsNoRequest f.id) (IsHisOrNotesNothing f.id) (λ e h. inl (behind_is_his f.id e.event h)) f.behind f.no_more),
                ))

      body : HeardBody (brought label) (log label) f
      body = heard_body (brought label) (log label) f

      -- its request is read so
      abbrev HeardSo : List ℕ → ℕ → Event → Type 0
      HeardSo bytes n e = (r : IsRequest bytes n e body.behind) × (r.heard.conversation.says.greeting ≡ greeting_of f.request)

      heard_so : HeardSo (brought label) asked.id (Source asked)
      heard_so =
          subst (HeardSo (brought label) asked.id) (sym same_event)
          (subst (λ (n : ℕ). HeardSo (brought label) n (asks_to_feed f.id f.request)) (sym his_number) (body.is_request, body.greets))

      pub delivers_body : DeliversItsBody settings lists brought course label asked
      delivers_body = record {
        behind = body.behind;
        is_request = heard_so.0;
        undelivered = front.rest ++ f.rest;
        is_front =
            body.content ∙ sym f.front
            ∙ ap (λ (es : List Entry). pushed (events_of es) ++ f.rest) (sym p.behind)
            ∙ ap (λ (xs : List ℕ). xs ++ f.rest) (sym front.is_front)
            ∙ append_assoc (noted behind) front.rest f.rest
            ∙ ap (λ (xs : List ℕ). xs ++ (front.rest ++ f.rest)) (sym all_noted);
      }

      -- what was written to it
      abbrev greeted_here : IsGreeted web f (given label)
      greeted_here = feeds_greeted.1

      mute : Waited web f.idle
      mute = waited web f.idle greeted_here.goes.1
          (arrives_and_idles settings lists fits adds steps w0 past label f.id f.peer f.idle (reached_opening settings lists fits adds steps)
          (are_on_first settings lists fits adds steps label f.id past (on label (Source asked) ∷ later) (subst (AllByRecursion (IsOnIt label f.id)) parts on_it))
          p.before f.idles).1

      told_as : (r : Reply) → reply_to w (Source asked) ≡ r
          → given label ≡ (said (record (asking web) { greeting = greeting_of f.request; closing = greeted_here.closing }) r).bytes ++ greeted_here.rest
      told_as r e =
          greeted_here.is_told
          ∙ ap (λ (xs : List ℕ). xs ++ ((said (greeted_says web f.id f.idle f.request greeted_here.closing) f.reply).bytes ++ greeted_here.rest)) mute.untold
          ∙ ap (λ (s : Says). (said (record s { greeting = greeting_of f.request; closing = greeted_here.closing }) f.reply).bytes ++ greeted_here.rest) mute.says
          ∙ ap (λ (x : Reply). (said (record (asking web) { greeting = greeting_of f.request; closing = greeted_here.closing }) x).bytes ++ greeted_here.rest)
          (ap (λ (x : Entry). x.reply) (sym p.here) ∙ e)

      nothing_more : (r : Reply) → reply_to w (Source asked) ≡ r → IsLast r → greeted_here.rest ≡ []
      nothing_more r e l = greeted_here.ends (subst IsLast (sym (ap (λ (x : Entry). x.reply) (sym p.here) ∙ e)) l)

      pub source_answered : (denied : (events : List Event) (event : Event) → DenialsAreThePolicys (run_after settings lists events) event)
          → SourceIsAnswered settings lists brought course web given label asked past
      source_answered denied = record {
        behind = body.behind;
        is_request = heard_so.0;
        denied = λ rule e. (
          (denied (events_in past) (Source asked) rule e).0,
          told_as (Deny rule) e ∙ ap (λ (xs : List ℕ). denial web rule ++ xs) (nothing_more (Deny rule) e tt) ∙ append-nil (denial web rule),
        );
        feeds = λ e. (greeted_here.rest, told_as Feeding e ∙ ap (λ (g : Greeting). greeting_text web g ++ greeted_here.rest) (sym heard_so.1));
        too_late = λ rule e. told_as (Finished rule) e ∙ nothing_more (Finished rule) e tt;
      }

    -- and so is a listener's request
    module _ (label : ℕ) (asked : ListenRequest) (past later : List Happening) (parts : course ≡ past ++ on label (Listen asked) ∷ later) where
      pub listens_so : IsRequest (brought label) asked.id (Listen asked) []
      listens_so =
          let w = run_after settings lists (events_in past) in
          let before = log_on w0 past label in
          let behind = log_on (world_after w (Listen asked)) later label in
          let in_order : log label ≡ before ++ applied_entry w (Listen asked) ∷ behind =
          ap (λ (hs : List Happening). log_on w0 hs label) parts ∙ log_parted w0 past later label (Listen asked) in
          let g = by_get web (brought label) (log label) (given label) before behind (applied_entry w (Listen asked)) in_order tt (each label).facts in
          let p = parted_at_get web (brought label) (log label) (given label) g before behind (applied_entry w (Listen asked)) in_order tt in
          let number : asked.id ≡ g.id = get_is_of web g.id g.request (sym p) in
          subst (λ (e : Event). IsRequest (brought label) asked.id e []) (sym p)
          (subst (λ (n : ℕ). IsRequest (brought label) n (asks_by_get web g.id g.request) []) (sym number)
          (heard_get (brought label) (log label) (given label) g))
