-- Inputs on a client's connection before its head is complete.
use Rattle.std.proofs.Common.{◌≡◌, ◌⊎◌, inl, inr, ℕ, Bool, true, false, List, [], ◌∷◌, ◌++◌, drop, Some, Ok, refl, sym, ap, subst, ◌∙◌}
use Rattle.radio_headline.proofs.Words.{codes, if◌then◌else◌, option_map, concat, bytes_eq, Peer, blocks_of, Rule, Entry, Event, Leave, Arrived, client_in, reply_to, World, Whole, RequestParts, ShowsRequest}
use Rattle.radio_headline.proofs.Words.{IsStableReading, HeadsLieWithin, IsReading, unfed, Place, after, data_of, has_ended, fault_at, Body, Nothing, Running, asks_to_feed, asks_by_get, asks_to_hear, gives_command}
use Rattle.radio_headline.proofs.Words.{is_for_commands, path_in, Conversation, asking, saying_now, exchanged, Says, is_source, framing_of, greeting_of, start_of, said, EventReading, body_closes, get_heard, greeted}
use Rattle.radio_headline.proofs.Words.{nothing_held, refuses, told, applied, applied_entry, pushed, WebAnswers}
use Rattle.radio_session.specs.declared.session.Hears.TheVariants.{Head}
use Rattle.radio_headline.proofs.Logs.{entries, replies, Each, each_as, each_joined}
use Rattle.radio_headline.proofs.AppliedLemmas.{EachAsked, applied_each, applied_orderly, goes_on, IsOpen, IsOrderly}
use Rattle.radio_headline.proofs.AppliedLemmas.{orderly_joined, said_all, web_stays}
use Rattle.radio_headline.proofs.ReplyForms.{IsIdle}
use Rattle.radio_headline.proofs.RunLemmas.{IsIdling}
use Rattle.radio_headline.proofs.Connections.{arrival, events_of, IsIdleOrLeaving, IsBehindRequest, AsksForMount, AsksNothing, ByGet, Feeds}
use Rattle.radio_headline.proofs.Connections.{HasAskedNothing, HasSentGet, IsSource, IsTold, Stage, AtHead, AfterGet, AtBody, AfterBody, Refused}
use Rattle.radio_headline.proofs.Connections.{IsClient, IsGreeted}
use Rattle.radio_headline.proofs.Greetings.{Greeted, ToldFirst, greeted_says, told_first}
use Rattle.radio_headline.proofs.ClientEvents.{First, Pushed, applied_pushed, asked_as, behind_is_his, entries_each, events_of_entries, first_of_applied, idle_asks_nothing, idle_is_his, new, still_told, told_now}
use Rattle.radio_headline.proofs.HeardLemmas.{AGet, ASource, Delivers, HeadHeard, IsRefused, Unfinished, delivers_by}
use Rattle.radio_headline.proofs.Settling.{CameOn, settled_in}

module _ (web : WebAnswers) (settled : IsStableReading ShowsRequest) (within : HeadsLieWithin ShowsRequest) (joined : (bytes : List ℕ) → concat (blocks_of bytes) ≡ bytes)
    (places : (place : Place) (first second : List ℕ) → after place (first ++ second) ≡ after (after place first) second)
    (data_joined : (place : Place) (first second : List ℕ) → data_of place (first ++ second) ≡ data_of place first ++ data_of (after place first) second) where
  -- An input arrives on a client's connection, whose conversation is in this state.
  module _ (w : World) (bytes : List ℕ) (log : List Entry) (given : List ℕ) (conversation : Conversation) (c : IsClient web bytes log given conversation) where
    abbrev Came : List ℕ → Conversation → List Event → Type 0
    Came = CameOn web w bytes log given conversation c

    abbrev id : ℕ
    id = conversation.id

    -- while its head has not come
    module _ (idle : List Entry) (arrived : log ≡ arrival conversation.peer id ∷ idle) (idles : Each (IsIdling id) idle) (t : IsTold web conversation log given) where
      pub nothing_asked : Each AsksNothing log
      nothing_asked = subst (Each AsksNothing) (sym arrived) ((λ a. a), each_as (IsIdling id) AsksNothing (λ e h. idle_asks_nothing id e.event h) idle idles)

      pub idle_at_head : (later : List ℕ) (now : Conversation) (events : List Event) → now.id ≡ id → now.peer ≡ conversation.peer → now.says ≡ conversation.says
          → now.hears ≡ Head → now.held ≡ later → EachAsked (IsIdle id) events → Came later now events
      idle_at_head later now events same also says hears held asked =
          settled_in web w bytes log given conversation c now later events same also (asked_as (IsIdle id) _ (λ e h. idle_is_his id e h) events asked)
          (λ run.
          AtHead (idle ++ new web w later log given now events)
          (ap (λ (xs : List Entry). xs ++ new web w later log given now events) arrived
          ∙ ap (λ (n : ℕ). arrival conversation.peer n ∷ idle ++ new web w later log given now events) (sym same)
          ∙ ap (λ (p : Peer). arrival p now.id ∷ idle ++ new web w later log given now events) (sym also))
          (subst (λ (n : ℕ). Each (IsIdling n) (idle ++ new web w later log given now events)) (sym same)
          (each_joined (IsIdling id) idle (new web w later log given now events) idles (idling run)))
          hears held (still_told web w later log given now events conversation t says run))
          (HasAskedNothing (each_joined AsksNothing log (new web w later log given now events) nothing_asked
          (applied_each (λ e. AsksForMount e → ⊥) w now.id now.says events (λ a. a) (asked_as (IsIdle id) _ (λ e h. idle_asks_nothing id e h) events asked)))) where
            idling : (exchanged w now.id now.says events).exchange.state ≡ Running → Each (IsIdling id) (new web w later log given now events)
            idling run = entries_each (IsIdle id) w (applied w now.id now.says events)
                (subst (EachAsked (IsIdle id)) (sym (goes_on w now.id now.says events run).all) asked)

      -- a GET is read
      gets_at_head : (later : List ℕ) (request : RequestParts) (n : ℕ) → IsReading ShowsRequest later (Ok (Whole request n)) → is_source request ≡ false
          → bytes_eq request.method (codes "GET") ≡ true
          → Came later (get_heard (nothing_held conversation) request).conversation (asks_by_get web id request ∷ [])
      gets_at_head later request n reading no_source is_get =
          settled_in web w bytes log given conversation c ((get_heard (nothing_held conversation) request).conversation) later ((asks_by_get web id request) ∷ []) refl refl (get_is_his, tt)
          (λ run. AfterGet by_get refl (still_told web w later log given ((get_heard (nothing_held conversation) request).conversation) ((asks_by_get web id request) ∷ []) conversation t refl run))
          (HasSentGet by_get) where
            get_is_his : client_in (asks_by_get web id request) ≡ Some id
            get_is_his = by_kind (is_for_commands (path_in request)) where
              by_kind : (b : Bool) → client_in (if b then gives_command web id request (path_in request) else asks_to_hear web id request (path_in request)) ≡ Some id
              by_kind true = refl
              by_kind false = refl

            first : First (λ e. e ≡ Leave id) w id conversation.says (asks_by_get web id request) []
            first = first_of_applied (λ e. e ≡ Leave id) w id conversation.says (asks_by_get web id request) [] refl tt

            in_order : log ++ entries w (applied w id conversation.says ((asks_by_get web id request) ∷ [])) ≡ arrival conversation.peer id ∷ idle ++ applied_entry w (asks_by_get web id request) ∷ first.others
            in_order = ap (λ (xs : List Entry). log ++ xs) first.in_order ∙ ap (λ (xs : List Entry). xs ++ applied_entry w (asks_by_get web id request) ∷ first.others) arrived

            by_get : ByGet web later (log ++ entries w (applied w id conversation.says ((asks_by_get web id request) ∷ [])))
                (given ++ (exchanged w id conversation.says ((asks_by_get web id request) ∷ [])).exchange.bytes)
            by_get = record {
              id = id;
              peer = conversation.peer;
              idle = idle;
              request = request;
              reply = reply_to w (asks_by_get web id request);
              behind = first.others;
              in_order = in_order;
              idles = idles;
              goes = subst (λ (xs : List Entry). IsOpen (asking web) (replies xs)) arrived t.goes;
              no_more = each_as (λ e. e.event ≡ Leave id) (IsIdleOrLeaving id) (λ e h. inr h) first.others first.each;
              orderly = orderly_joined id log (entries w (applied w id conversation.says ((asks_by_get web id request) ∷ []))) c.goes_on (applied_orderly w id conversation.says ((asks_by_get web id request) ∷ []));
              length = n;
              reading = reading;
              no_source = no_source;
              is_get = is_get;
              is_told = told_now web w later log given ((get_heard (nothing_held conversation) request).conversation) ((asks_by_get web id request) ∷ []) conversation t refl;
            }

      -- a source's head is read, and the first bytes of its body
      feeds_at_head : (later : List ℕ) (request : RequestParts) (n : ℕ) (start : Place) → IsReading ShowsRequest later (Ok (Whole request n))
          → is_source request ≡ true → option_map start_of (framing_of request) ≡ Some start → (heard : EventReading)
          → Delivers settled within joined places data_joined (greeted (nothing_held conversation) request) (asks_to_feed id request ∷ []) start (drop n later) heard
          → Came later heard.conversation heard.events
      feeds_at_head later request n start reading source framed heard d =
          settled_in web w bytes log given conversation c heard.conversation later heard.events d.his d.peer
          (subst (EachAsked (λ e. client_in e ≡ Some id)) (sym d.events) (refl, asked_as (IsBehindRequest id) _ (λ e h. behind_is_his id e h) d.asked d.each))
          (λ run. stage run d.hears) (IsSource feeds.0 greeted_now) where
            first : First (IsBehindRequest id) w id heard.conversation.says (asks_to_feed id request) d.asked
            first = first_of_applied (IsBehindRequest id) w id heard.conversation.says (asks_to_feed id request) d.asked refl d.each

            all_new : entries w (applied w heard.conversation.id heard.conversation.says heard.events) ≡ applied_entry w (asks_to_feed id request) ∷ first.others
            all_new = ap (λ (es : List Event). entries w (applied w heard.conversation.id heard.conversation.says es)) d.events
                ∙ ap (λ (m : ℕ). entries w (applied w m heard.conversation.says ((asks_to_feed id request) ∷ d.asked))) d.his ∙ first.in_order

            pushes_of : Pushed w heard.conversation.id heard.conversation.says heard.events
            pushes_of = applied_pushed w heard.conversation.id heard.conversation.says heard.events

            others_pushed : pushed (events_of first.others) ≡ pushed (applied w heard.conversation.id heard.conversation.says heard.events)
            others_pushed = ap (λ (xs : List Entry). pushed (events_of xs)) (sym all_new)
                ∙ ap pushed (events_of_entries w (applied w heard.conversation.id heard.conversation.says heard.events))

            feeds : (f : Feeds later (log ++ entries w (applied w heard.conversation.id heard.conversation.says heard.events))) × (f.rest ≡ pushes_of.rest) × (f.start ≡ start)
                × (f.length ≡ n) × ((xs : List ℕ) → Greeted web id idle request (reply_to w (asks_to_feed id request)) xs → IsGreeted web f xs)
            feeds = (
              record {
                id = id;
                peer = conversation.peer;
                idle = idle;
                request = request;
                reply = reply_to w (asks_to_feed id request);
                behind = first.others;
                in_order = ap (λ (xs : List Entry). log ++ xs) all_new ∙ ap (λ (xs : List Entry). xs ++ applied_entry w (asks_to_feed id request) ∷ first.others) arrived;
                idles = idles;
                no_more = first.each;
                orderly = orderly_joined id log (entries w (applied w heard.conversation.id heard.conversation.says heard.events)) c.goes_on
                    (subst (λ (m : ℕ). IsOrderly m (entries w (applied w heard.conversation.id heard.conversation.says heard.events))) d.his (applied_orderly w heard.conversation.id heard.conversation.says heard.events));
                length = n;
                reading = reading;
                source = source;
                start = start;
                framed = framed;
                rest = pushes_of.rest;
                front = ap (λ (xs : List ℕ). xs ++ pushes_of.rest) others_pushed ∙ pushes_of.front ∙ ap pushed d.events ∙ d.content;
              },
              refl,
              refl,
              refl,
              λ xs told. told,
            )

            says_so : heard.conversation.says ≡ greeted_says web id idle request d.closing
            says_so = d.says ∙ ap (λ (s : Says). record s { greeting = greeting_of request; closing = d.closing })
                (t.says ∙ ap (λ (xs : List Entry). said_all (asking web) (replies xs)) arrived)

            of_first : ToldFirst w id heard.conversation.says (asks_to_feed id request) d.asked
            of_first = told_first w id heard.conversation.says (asks_to_feed id request) d.asked

            greeted_now : IsGreeted web feeds.0 (given ++ (exchanged w heard.conversation.id heard.conversation.says heard.events).exchange.bytes)
            greeted_now = feeds.4 _ (record {
              goes = subst (λ (xs : List Entry). IsOpen (asking web) (replies xs)) arrived t.goes;
              closing = d.closing;
              rest = of_first.rest;
              is_told =
                  ap (λ (xs : List ℕ). xs ++ (exchanged w heard.conversation.id heard.conversation.says heard.events).exchange.bytes)
                  (t.is_told ∙ ap (λ (xs : List Entry). told (asking web) (replies xs)) arrived)
                  ∙ ap (λ (xs : List ℕ). told (asking web) (Arrived id ∷ replies idle) ++ xs)
                  (ap (λ (es : List Event). (exchanged w heard.conversation.id heard.conversation.says es).exchange.bytes) d.events
                  ∙ ap (λ (m : ℕ). (exchanged w m heard.conversation.says (asks_to_feed id request ∷ d.asked)).exchange.bytes) d.his
                  ∙ of_first.is_told ∙ ap (λ (s : Says). (said s (reply_to w (asks_to_feed id request))).bytes ++ of_first.rest) says_so);
              ends = of_first.ends;
            })

            stage : (exchanged w heard.conversation.id heard.conversation.says heard.events).exchange.state ≡ Running
                → (heard.conversation.hears ≡ Body (unfed (after start (drop n later)))) ⊎ (heard.conversation.hears ≡ Nothing)
                → Stage web later (log ++ entries w (applied w heard.conversation.id heard.conversation.says heard.events)) (given ++ (exchanged w heard.conversation.id heard.conversation.says heard.events).exchange.bytes)
                (saying_now heard.conversation (exchanged w heard.conversation.id heard.conversation.says heard.events).exchange.says)
            stage run (inl h) = AtBody feeds.0 greeted_now (feeds.1 ∙ pushes_of.whole run) (h
                ∙ ap (λ (m : ℕ). Body (unfed (after start (drop m later)))) (sym feeds.3)
                ∙ ap (λ (q : Place). Body (unfed (after q (drop feeds.0.length later)))) (sym feeds.2))
            stage run (inr h) = AfterBody feeds.0 greeted_now h

      -- a head is refused
      refused_at_head : (later : List ℕ) (rule : Rule) → Came later (refuses (nothing_held conversation) rule).conversation (Leave id ∷ [])
      refused_at_head later rule =
          settled_in web w bytes log given conversation c ((refuses (nothing_held conversation) rule).conversation) later (Leave id ∷ []) refl refl (refl, tt) (λ run. Refused nothing refl) (HasAskedNothing nothing) where
            nothing : Each AsksNothing (log ++ entries w (applied w id ((refuses (nothing_held conversation) rule).conversation).says (Leave id ∷ [])))
            nothing = each_joined AsksNothing log (entries w (applied w id ((refuses (nothing_held conversation) rule).conversation).says (Leave id ∷ []))) nothing_asked
                (applied_each (λ e. AsksForMount e → ⊥) w id ((refuses (nothing_held conversation) rule).conversation).says (Leave id ∷ []) (λ a. a) ((λ a. a), tt))

      -- what the settings say is still said
      keeps_web : conversation.says.web ≡ web
      keeps_web = ap (λ (s : Says). s.web) t.says ∙ web_stays (asking web) (replies log)

      pub head_comes : (later : List ℕ) (heard : EventReading) → HeadHeard settled within joined places data_joined conversation later heard → conversation.hears ≡ Head → Came later heard.conversation heard.events
      head_comes later heard Unfinished hears = idle_at_head later (record conversation { held = later }) [] refl refl refl hears refl tt
      head_comes later heard (IsRefused rule) hears = refused_at_head later rule
      head_comes later heard (AGet request n reading no_source is_get) hears =
          subst (λ (x : WebAnswers). Came later (get_heard (nothing_held conversation) request).conversation (asks_by_get x id request ∷ [])) (sym keeps_web)
          (gets_at_head later request n reading no_source is_get)
      head_comes later heard (ASource request n start reading source framed) hears =
          feeds_at_head later request n start reading source framed _
          (delivers_by settled within joined places data_joined (greeted (nothing_held conversation) request) (asks_to_feed id request ∷ []) start (drop n later)
          (body_closes (has_ended (after start (drop n later))) (fault_at (after start (drop n later)))))
