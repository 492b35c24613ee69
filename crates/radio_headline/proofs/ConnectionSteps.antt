-- The state of a client's connection after an input.
use Rattle.std.proofs.Common.{◌≡◌, ◌⊎◌, inl, inr, ℕ, List, [], ◌∷◌, ◌++◌, drop, Some, refl, sym, ap, subst, ◌∙◌, append_assoc}
use Rattle.radio_headline.proofs.Words.{concat, append-nil, Peer, blocks_of, Entry, Event, Leave, Reply, Arrived, client_in, reply_to, World, ShowsRequest, IsStableReading, HeadsLieWithin, IsReading, unfed, Place, after}
use Rattle.radio_headline.proofs.Words.{data_of, has_ended, fault_at, Hears, Body, Nothing, Running, asks_to_feed, asks_by_get, Conversation, asking, saying_now, exchanged, EventReading, HearsAs, body_closes, head_heard}
use Rattle.radio_headline.proofs.Words.{nothing_held, told, applied, applied_entry, pushed, WebAnswers}
use Rattle.radio_headline.proofs.Logs.{entries, replies, replies_joined, Each, each_joined, each_second}
use Rattle.radio_headline.proofs.AppliedLemmas.{EachAsked, applied_each, applied_orderly, IsLast, IsNotLast, IsOrderly}
use Rattle.radio_headline.proofs.AppliedLemmas.{all_close_nothing, leaves_silently, orderly_joined, said_all, told_joined}
use Rattle.radio_headline.proofs.ReplyForms.{IsIdle, leave_reply}
use Rattle.radio_headline.proofs.Connections.{arrival, events_of, IsIdleOrLeaving, IsBehindRequest, IsNoRequest, AsksForMount, AsksNothing, ByGet, Feeds}
use Rattle.radio_headline.proofs.Connections.{Facts, HasAskedNothing, HasSentGet, IsSource, IsClosed, IsTold, Stage, AtHead, AfterGet, AtBody, AfterBody, Refused}
use Rattle.radio_headline.proofs.Connections.{IsClient, IsGreeted}
use Rattle.radio_headline.proofs.Greetings.{greeted_on}
use Rattle.radio_headline.proofs.ClientEvents.{IsIdleOrLeave, Pushed, PushesNothing, applied_pushed, asked_as, behind_is_his, client_owns, events_of_entries, events_of_joined, feeds_with, get_with, idle_asks_nothing, idle_is_behind, idle_is_his, idle_or_leaving_is_his, idle_pushes_nothing, none_pushed, pushed_joined, still_told, told_now}
use Rattle.radio_headline.proofs.HeardLemmas.{Delivers, behind_head, delivers_by, more_data, more_for_source, of_reading, read_more}
use Rattle.radio_headline.proofs.Settling.{CameOn, logged, settled_in}
use Rattle.radio_headline.proofs.HeadSteps.{nothing_asked, idle_at_head, head_comes}

module _ (web : WebAnswers) (settled : IsStableReading ShowsRequest) (within : HeadsLieWithin ShowsRequest) (joined : (bytes : List ℕ) → concat (blocks_of bytes) ≡ bytes)
    (places : (place : Place) (first second : List ℕ) → after place (first ++ second) ≡ after (after place first) second)
    (data_joined : (place : Place) (first second : List ℕ) → data_of place (first ++ second) ≡ data_of place first ++ data_of (after place first) second) where
  -- An input arrives on a client's connection, whose conversation is in this state.
  module _ (w : World) (bytes : List ℕ) (log : List Entry) (given : List ℕ) (conversation : Conversation) (c : IsClient web bytes log given conversation) where
    abbrev Came : List ℕ → Conversation → List Event → Type 0
    Came = CameOn web w bytes log given conversation c

    abbrev id : ℕ
    id = conversation.id

    -- what comes behind a GET
    behind_get : (g : ByGet web bytes log given) → g.id ≡ id → IsTold web conversation log given → conversation.hears ≡ Nothing → (more : List ℕ) (events : List Event)
        → EachAsked (IsIdleOrLeave id) events → Came (bytes ++ more) conversation events
    behind_get g his t hears more events asked =
        settled_in web w bytes log given conversation c conversation (bytes ++ more) events refl refl (asked_as (IsIdleOrLeave id) _ (λ e h. idle_or_leaving_is_his id e h) events asked)
        (λ run. AfterGet got hears (still_told web w (bytes ++ more) log given conversation events conversation t refl run)) (HasSentGet got) where
          got : ByGet web (bytes ++ more) (log ++ (entries w (applied w id conversation.says events))) (given ++ (exchanged w id conversation.says events).exchange.bytes)
          got = get_with web bytes (bytes ++ more) log (log ++ (entries w (applied w id conversation.says events))) given
              (given ++ (exchanged w id conversation.says events).exchange.bytes) g (read_more settled within joined places data_joined bytes more g.request g.length g.reading)
              (g.behind ++ (entries w (applied w id conversation.says events)))
              (ap (λ (xs : List Entry). xs ++ (entries w (applied w id conversation.says events))) g.in_order
              ∙ logged (arrival g.peer g.id) g.idle (record { event = asks_by_get web g.id g.request; reply = g.reply } ∷ g.behind) (entries w (applied w id conversation.says events)))
              (each_joined (IsIdleOrLeaving g.id) g.behind (entries w (applied w id conversation.says events)) g.no_more
              (subst (λ (m : ℕ). Each (IsIdleOrLeaving m) (entries w (applied w id conversation.says events))) (sym his)
              (applied_each (IsIdleOrLeave id) w id conversation.says events (inr refl) asked)))
              (subst (λ (m : ℕ). IsOrderly m (log ++ (entries w (applied w id conversation.says events)))) (sym his)
              (orderly_joined id log (entries w (applied w id conversation.says events)) c.goes_on (applied_orderly w id conversation.says events)))
              (told_now web w (bytes ++ more) log given conversation events conversation t refl)

    -- a source's events go on
    module _ (f : Feeds bytes log) (was : IsGreeted web f given) (his : f.id ≡ id) where
      abbrev coming : List ℕ → List ℕ
      coming more = data_of (after f.start (drop f.length bytes)) more

      abbrev Fed : List ℕ → List Entry → List ℕ → Type 0
      Fed later newer rest = (g : Feeds later newer) × (g.rest ≡ rest) × (g.start ≡ f.start) × (g.length ≡ f.length) × ((more : List ℕ) → IsGreeted web g (given ++ more))

      feeds_on : (more : List ℕ) (now : Conversation) (events : List Event) → now.id ≡ id → EachAsked (IsBehindRequest id) events
          → (rest : List ℕ) → pushed (applied w now.id now.says events) ++ rest ≡ f.rest ++ coming more
          → Fed (bytes ++ more) (log ++ (entries w (applied w now.id now.says events))) rest
      feeds_on more now events same asked rest e = (
        feeds_with bytes (bytes ++ more) log (log ++ (entries w (applied w now.id now.says events))) f
            (read_more settled within joined places data_joined bytes more f.request f.length f.reading) (f.behind ++ (entries w (applied w now.id now.says events)))
            (ap (λ (xs : List Entry). xs ++ (entries w (applied w now.id now.says events))) f.in_order
            ∙ logged (arrival f.peer f.id) f.idle (record { event = asks_to_feed f.id f.request; reply = f.reply } ∷ f.behind) (entries w (applied w now.id now.says events)))
            (each_joined (IsNoRequest f.id) f.behind (entries w (applied w now.id now.says events)) f.no_more
            (subst (λ (m : ℕ). Each (IsNoRequest m) (entries w (applied w now.id now.says events))) (same ∙ sym his)
            (applied_each (IsBehindRequest now.id) w now.id now.says events refl (subst (λ (m : ℕ). EachAsked (IsBehindRequest m) events) (sym same) asked))))
            (subst (λ (m : ℕ). IsOrderly m (log ++ (entries w (applied w now.id now.says events)))) (same ∙ sym his)
            (orderly_joined now.id log (entries w (applied w now.id now.says events)) c.goes_on (applied_orderly w now.id now.says events)))
            rest
            (ap (λ (xs : List ℕ). xs ++ rest) (ap pushed (events_of_joined f.behind (entries w (applied w now.id now.says events)))
            ∙ pushed_joined (events_of f.behind) (events_of (entries w (applied w now.id now.says events)))
            ∙ ap (λ (es : List Event). pushed (events_of f.behind) ++ pushed es) (events_of_entries w (applied w now.id now.says events)))
            ∙ append_assoc (pushed (events_of f.behind)) (pushed (applied w now.id now.says events)) rest
            ∙ ap (λ (xs : List ℕ). pushed (events_of f.behind) ++ xs) e
            ∙ sym (append_assoc (pushed (events_of f.behind)) f.rest (coming more))
            ∙ ap (λ (xs : List ℕ). xs ++ coming more) f.front
            ∙ sym (more_data settled within joined places data_joined bytes more f.request f.length f.start f.reading)),
        refl,
        refl,
        refl,
        λ told. greeted_on web f.id f.idle f.request f.reply given told was no_last,
      ) where
        no_last : IsLast f.reply → ⊥
        no_last = (each_second IsNotLast (arrival f.peer f.id ∷ f.idle) _ (subst (Each IsNotLast) f.in_order c.goes_on)).0

      feeds_silently : (more : List ℕ) (now : Conversation) (events : List Event) → now.id ≡ id → EachAsked (IsIdle id) events
          → Fed (bytes ++ more) (log ++ entries w (applied w now.id now.says events)) (f.rest ++ coming more)
      feeds_silently more now events same asked =
          feeds_on more now events same (asked_as (IsIdle id) _ (λ e h. idle_is_behind id e h) events asked) (f.rest ++ coming more)
          (ap (λ (xs : List ℕ). xs ++ (f.rest ++ coming more)) none) where
            none : pushed (applied w now.id now.says events) ≡ []
            none = ap pushed (sym (events_of_entries w (applied w now.id now.says events)))
                ∙ none_pushed (entries w (applied w now.id now.says events))
                (applied_each PushesNothing w now.id now.says events refl (asked_as (IsIdle id) _ (λ e h. idle_pushes_nothing id e h) events asked))

      -- more of the body comes
      body_comes : f.rest ≡ [] → (more : List ℕ) (heard : EventReading)
          → Delivers settled within joined places data_joined (nothing_held conversation) [] (after f.start (drop f.length bytes)) more heard
          → Came (bytes ++ more) heard.conversation heard.events
      body_comes none more heard d =
          settled_in web w bytes log given conversation c heard.conversation (bytes ++ more) heard.events d.his d.peer
          (subst (EachAsked (λ e. client_in e ≡ Some id)) (sym d.events) (asked_as (IsBehindRequest id) _ (λ e h. behind_is_his id e h) d.asked d.each))
          (λ run. stage run d.hears) (IsSource fed.0 (fed.4 _)) where
            p : Pushed w heard.conversation.id heard.conversation.says heard.events
            p = applied_pushed w heard.conversation.id heard.conversation.says heard.events

            fed : Fed (bytes ++ more) (log ++ entries w (applied w heard.conversation.id heard.conversation.says heard.events)) p.rest
            fed = feeds_on more heard.conversation heard.events d.his (subst (EachAsked (IsBehindRequest id)) (sym d.events) d.each) p.rest
                (p.front ∙ ap pushed d.events ∙ d.content ∙ ap (λ (xs : List ℕ). xs ++ coming more) (sym none))

            stage : (exchanged w heard.conversation.id heard.conversation.says heard.events).exchange.state ≡ Running
                → (heard.conversation.hears ≡ Body (unfed (after (after f.start (drop f.length bytes)) more))) ⊎ (heard.conversation.hears ≡ Nothing)
                → Stage web (bytes ++ more) (log ++ entries w (applied w heard.conversation.id heard.conversation.says heard.events))
                (given ++ (exchanged w heard.conversation.id heard.conversation.says heard.events).exchange.bytes) (saying_now heard.conversation (exchanged w heard.conversation.id heard.conversation.says heard.events).exchange.says)
            stage run (inl h) = AtBody fed.0 (fed.4 _) (fed.1 ∙ p.whole run) (h ∙ ap (λ (place : Place). Body (unfed place))
                (sym (places f.start (drop f.length bytes) more)
                ∙ ap (after f.start) (sym (behind_head settled within joined places data_joined bytes more f.request f.length f.reading))
                ∙ ap (λ (n : ℕ). after f.start (drop n (bytes ++ more))) (sym fed.3)
                ∙ ap (λ (q : Place). after q (drop fed.0.length (bytes ++ more))) (sym fed.2)))
            stage run (inr h) = AfterBody fed.0 (fed.4 _) h

      -- between them it draws, or sends titles
      idle_at_body : f.rest ≡ [] → conversation.hears ≡ Body (unfed (after f.start (drop f.length bytes))) → (events : List Event)
          → EachAsked (IsIdle id) events → Came (bytes ++ []) conversation events
      idle_at_body none hears events asked =
          settled_in web w bytes log given conversation c conversation (bytes ++ []) events refl refl (asked_as (IsIdle id) _ (λ e h. idle_is_his id e h) events asked)
          (λ run. AtBody silent.0 (silent.4 _) (silent.1 ∙ append-nil f.rest ∙ none)
          (hears ∙ ap (λ (xs : List ℕ). Body (unfed (after f.start (drop f.length xs)))) (sym (append-nil bytes))
          ∙ ap (λ (n : ℕ). Body (unfed (after f.start (drop n (bytes ++ []))))) (sym silent.3)
          ∙ ap (λ (q : Place). Body (unfed (after q (drop silent.0.length (bytes ++ []))))) (sym silent.2)))
          (IsSource silent.0 (silent.4 _)) where
            silent : Fed (bytes ++ []) (log ++ entries w (applied w id conversation.says events)) (f.rest ++ coming [])
            silent = feeds_silently [] conversation events refl asked

      after_body : conversation.hears ≡ Nothing → (more : List ℕ) (events : List Event) → EachAsked (IsIdle id) events → Came (bytes ++ more) conversation events
      after_body hears more events asked =
          let silent = feeds_silently more conversation events refl asked in
          settled_in web w bytes log given conversation c conversation (bytes ++ more) events refl refl (asked_as (IsIdle id) _ (λ e h. idle_is_his id e h) events asked)
          (λ run. AfterBody silent.0 (silent.4 _) hears) (IsSource silent.0 (silent.4 _))

    -- nothing more is read
    after_refusal : Each AsksNothing log → conversation.hears ≡ Nothing → (later : List ℕ) (events : List Event) → EachAsked (IsIdle id) events
        → Came later conversation events
    after_refusal nothing hears later events asked =
        settled_in web w bytes log given conversation c conversation later events refl refl (asked_as (IsIdle id) _ (λ e h. idle_is_his id e h) events asked)
        (λ run. Refused still hears) (HasAskedNothing still) where
          still : Each AsksNothing (log ++ entries w (applied w id conversation.says events))
          still = each_joined AsksNothing log (entries w (applied w id conversation.says events)) nothing
              (applied_each (λ e. AsksForMount e → ⊥) w id conversation.says events (λ a. a)
              (asked_as (IsIdle id) _ (λ e h. idle_asks_nothing id e h) events asked))

    -- the arrival of this connection is of this client
    same_arrival : (peer : Peer) (him : ℕ) (rest : List Entry) → log ≡ arrival peer him ∷ rest → him ≡ id
    same_arrival peer him rest e =
        let both : arrival peer him ∷ rest ≡ arrival conversation.peer id ∷ c.others = sym e ∙ c.arrived in
        let first : arrival peer him ≡ arrival conversation.peer id = cc in
        let reply : Arrived him ≡ Arrived id = ap (λ (x : Entry). x.reply) first in
        cc

    -- bytes come
    pub data_come : (more : List ℕ) (heard : EventReading) → HearsAs conversation.hears conversation more heard
        → Came (bytes ++ more) heard.conversation heard.events
    data_come more heard h = by_stage c.stage where
      nothing_heard : conversation.hears ≡ Nothing → Came (bytes ++ more) conversation [] → Came (bytes ++ more) heard.conversation heard.events
      nothing_heard e came =
          subst (λ (x : EventReading). Came (bytes ++ more) x.conversation x.events)
          (sym (subst (λ (s : Hears). HearsAs s conversation more heard) e h)) came

      by_stage : Stage web bytes log given conversation → Came (bytes ++ more) heard.conversation heard.events
      by_stage (AtHead idle arrived idles hears held t) =
          let r = subst (λ (s : Hears). HearsAs s conversation more heard) hears h in
          subst (λ (x : EventReading). Came (bytes ++ more) x.conversation x.events) (sym (r.2 ∙ ap (λ (b : List ℕ). head_heard conversation (b ++ more) r.0) held))
          (head_comes web settled within joined places data_joined w bytes log given conversation c idle arrived idles t (bytes ++ more) (head_heard conversation (bytes ++ more) r.0)
          (of_reading settled within joined places data_joined conversation (bytes ++ more) r.0 (subst (λ (b : List ℕ). IsReading ShowsRequest (b ++ more) r.0) held r.1)) hears)
      by_stage (AfterGet g hears t) =
          nothing_heard hears (behind_get g (same_arrival g.peer g.id _ g.in_order) t hears more [] tt)
      by_stage (AtBody f told none hears) =
          let r = subst (λ (s : Hears). HearsAs s conversation more heard) hears h in
          let place = after f.start (drop f.length bytes) in
          subst (λ (x : EventReading). Came (bytes ++ more) x.conversation x.events) (sym r)
          (body_comes f told (same_arrival f.peer f.id _ f.in_order) none more _
          (delivers_by settled within joined places data_joined (nothing_held conversation) [] place more (body_closes (has_ended (after place more)) (fault_at (after place more)))))
      by_stage (AfterBody f told hears) = nothing_heard hears (after_body f told (same_arrival f.peer f.id _ f.in_order) hears more [] tt)
      by_stage (Refused nothing hears) = nothing_heard hears (after_refusal nothing hears (bytes ++ more) [] tt)

    -- it draws, or sends a title
    pub idle_comes : (event : Event) → IsIdle id event → Came (bytes ++ []) conversation (event ∷ [])
    idle_comes event idle = by_stage c.stage where
      by_stage : Stage web bytes log given conversation → Came (bytes ++ []) conversation (event ∷ [])
      by_stage (AtHead others arrived idles hears held t) =
          idle_at_head web settled within joined places data_joined w bytes log given conversation c others arrived idles t (bytes ++ []) conversation (event ∷ []) refl refl refl hears (held ∙ sym (append-nil bytes)) (idle, tt)
      by_stage (AfterGet g hears t) = behind_get g (same_arrival g.peer g.id _ g.in_order) t hears [] (event ∷ []) (inl idle, tt)
      by_stage (AtBody f told none hears) = idle_at_body f told (same_arrival f.peer f.id _ f.in_order) none hears (event ∷ []) (idle, tt)
      by_stage (AfterBody f told hears) = after_body f told (same_arrival f.peer f.id _ f.in_order) hears [] (event ∷ []) (idle, tt)
      by_stage (Refused nothing hears) = after_refusal nothing hears (bytes ++ []) (event ∷ []) (idle, tt)

    -- its peer closes it
    pub end_comes : IsClosed web (bytes ++ []) (log ++ applied_entry w (Leave id) ∷ []) (given ++ [])
    end_comes = record {
      own = client_owns id conversation.peer (c.others ++ (applied_entry w (Leave id) ∷ [])) (log ++ (applied_entry w (Leave id) ∷ [])) (ap (λ (xs : List Entry). xs ++ (applied_entry w (Leave id) ∷ [])) c.arrived)
          (each_joined (λ e. client_in e.event ≡ Some id) c.others (applied_entry w (Leave id) ∷ []) c.his (refl, tt));
      facts = subst (λ (xs : List ℕ). Facts web (bytes ++ []) (log ++ (applied_entry w (Leave id) ∷ [])) xs) (sym (append-nil given)) (by_stage c.stage);
    } where
      nothing : Each AsksNothing log → Each AsksNothing (log ++ (applied_entry w (Leave id) ∷ []))
      nothing h = each_joined AsksNothing log (applied_entry w (Leave id) ∷ []) h ((λ a. a), tt)

      orderly : IsOrderly id (log ++ (applied_entry w (Leave id) ∷ []))
      orderly = orderly_joined id log (applied_entry w (Leave id) ∷ []) c.goes_on ((λ h. tt), tt)

      still : IsTold web conversation log given → given ≡ told (asking web) (replies (log ++ (applied_entry w (Leave id) ∷ [])))
      still t =
          let says = said_all (asking web) (replies log) in
          t.is_told
          ∙ sym (append-nil (told (asking web) (replies log)))
          ∙ ap (λ (xs : List ℕ). told (asking web) (replies log) ++ xs)
          (sym (leaves_silently says (reply_to w (Leave id)) (all_close_nothing (asking web) (replies log) refl) (leave_reply w id)))
          ∙ sym (told_joined (asking web) (replies log) (reply_to w (Leave id) ∷ []) t.goes)
          ∙ ap (λ (rs : List Reply). told (asking web) rs) (sym (replies_joined log (applied_entry w (Leave id) ∷ [])))

      more_get : ByGet web bytes log given → IsTold web conversation log given → Facts web (bytes ++ []) (log ++ (applied_entry w (Leave id) ∷ [])) given
      more_get g t = HasSentGet (get_with web bytes (bytes ++ []) log (log ++ (applied_entry w (Leave id) ∷ [])) given given g (read_more settled within joined places data_joined bytes [] g.request g.length g.reading) (g.behind ++ (applied_entry w (Leave id) ∷ []))
          (ap (λ (xs : List Entry). xs ++ (applied_entry w (Leave id) ∷ [])) g.in_order
          ∙ logged (arrival g.peer g.id) g.idle (record { event = asks_by_get web g.id g.request; reply = g.reply } ∷ g.behind) (applied_entry w (Leave id) ∷ []))
          (each_joined (IsIdleOrLeaving g.id) g.behind (applied_entry w (Leave id) ∷ []) g.no_more (inr (ap (λ (n : ℕ). Leave n) (sym (same_arrival g.peer g.id _ g.in_order))), tt))
          (subst (λ (m : ℕ). IsOrderly m (log ++ (applied_entry w (Leave id) ∷ []))) (sym (same_arrival g.peer g.id _ g.in_order)) orderly) (still t))

      more_source : (f : Feeds bytes log) → IsGreeted web f given → Facts web (bytes ++ []) (log ++ (applied_entry w (Leave id) ∷ [])) given
      more_source f told =
          let m = more_for_source settled within joined places data_joined bytes [] log f in
          IsSource (feeds_with (bytes ++ []) (bytes ++ []) log (log ++ (applied_entry w (Leave id) ∷ [])) m m.reading (m.behind ++ (applied_entry w (Leave id) ∷ []))
          (ap (λ (xs : List Entry). xs ++ (applied_entry w (Leave id) ∷ [])) m.in_order
          ∙ logged (arrival m.peer m.id) m.idle (record { event = asks_to_feed m.id m.request; reply = m.reply } ∷ m.behind) (applied_entry w (Leave id) ∷ []))
          (each_joined (IsNoRequest m.id) m.behind (applied_entry w (Leave id) ∷ []) m.no_more (sym (same_arrival m.peer m.id _ m.in_order), tt))
          (subst (λ (n : ℕ). IsOrderly n (log ++ (applied_entry w (Leave id) ∷ []))) (sym (same_arrival m.peer m.id _ m.in_order)) orderly)
          m.rest
          (ap (λ (xs : List ℕ). xs ++ m.rest)
          (ap pushed (events_of_joined m.behind (applied_entry w (Leave id) ∷ [])) ∙ pushed_joined (events_of m.behind) (Leave id ∷ []) ∙ append-nil (pushed (events_of m.behind)))
          ∙ m.front)) told

      by_stage : Stage web bytes log given conversation → Facts web (bytes ++ []) (log ++ (applied_entry w (Leave id) ∷ [])) given
      by_stage (AtHead idle arrived idles hears held t) = HasAskedNothing (nothing (nothing_asked web settled within joined places data_joined w bytes log given conversation c idle arrived idles t))
      by_stage (AfterGet g hears t) = more_get g t
      by_stage (AtBody f told none hears) = more_source f told
      by_stage (AfterBody f told hears) = more_source f told
      by_stage (Refused h hears) = HasAskedNothing (nothing h)
