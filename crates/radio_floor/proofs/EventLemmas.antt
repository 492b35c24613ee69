-- Deliveries yield events.
use Rattle.std.proofs.Common.{◌≡◌, ℕ, Bool, true, false, cond, List, [], ◌∷◌, ◌++◌, Option, None, Some, Result, Ok, Err, inl, inr, refl, sym, ap, subst, ◌∙◌}
use Rattle.radio_floor.proofs.Words.{drop, codes, map, Peer, Settings, Lists, Event, Arrive, Draw, Leave, world_after_all, reply_to, world_after, World, cleaned, max_title, Says, WebAnswers, State, Running, Shut}
use Rattle.radio_floor.proofs.Words.{Conversation, WorldExchange, exchanged, then_exchanged, is_leave, EventReading, HearsAs, greeted, head_heard, get_heard, nothing_held, body_delivered, refuses, source_heard, Said}
use Rattle.radio_floor.proofs.Words.{said, Delivery, Open, Pull, To, Input, Data, Room, End, runs, ComeAbout, ComesToEvents, Arrives, Ticks, Pulls, IsAskedBy, IsAskedByRelay, Traced, traces, ComeToEvents, Connection}
use Rattle.radio_floor.proofs.Words.{Client, Relay, ScriptState, Performed, AsksOn, ComesTo, ComesToClient, ComesToRelay, IsPerformed, on_connection, connection_of, opening_script, opens_connection, connects}
use Rattle.radio_floor.proofs.Words.{relay_named, closes, exchanges, for_new_label, pulled_on, Pulling, event_of, items_of, Done, option_map, conduct, IsTranscriptOf}
use Rattle.std.specs.Str.{bytes_eq}
use Rattle.radio_heads.specs.declared.outcome.Progress.{Progress}
use Rattle.radio_heads.specs.declared.outcome.Progress.TheVariants.{More, Whole}
use Rattle.radio_heads.specs.declared.outcome.HeadFault.{HeadFault}
use Rattle.radio_heads.specs.Head.{RequestParts}
use Rattle.radio_policy.specs.declared.rule.Rule.TheVariants.{BadMethod}
use Rattle.radio_events.specs.declared.event.Event.TheVariants.{Title, Clock}
use Rattle.radio_session.specs.declared.session.Hears.{Hears}
use Rattle.radio_session.specs.declared.session.Hears.TheVariants.{Head, Body, Nothing}
use Rattle.radio_session.specs.Framing.{is_source, framing_of}
use Rattle.radio_script.specs.declared.delivery.Delivery.TheVariants.{Clock as ClockIs}
use Rattle.radio_script.specs.declared.delivery.Input.TheVariants.{Title as Named}
use Rattle.radio_floor.specs.ScriptEvents.{Nothing as NoEvents, Exchanges}
use Rattle.radio_settings_values.specs.declared.settings.RelaySetting.{RelaySetting}
use Rattle.radio_floor.proofs.PullEventLemmas.{LeadBy, PullLeads, asks_lead, goes_lead, one_more, takes_lead}

-- a reading of a connection's bytes belongs to its client still
module _ (conversation : Conversation) where
  of_choice : {A : Type 0} (heard : Option A → EventReading) → (heard None).conversation.id ≡ conversation.id
      → ((a : A) → (heard (Some a)).conversation.id ≡ conversation.id) → (choice : Option A) → (heard choice).conversation.id ≡ conversation.id
  of_choice heard none some None = none
  of_choice heard none some (Some a) = some a

  of_source : (request : RequestParts) (behind : List ℕ) → (source_heard conversation request behind (framing_of request)).conversation.id ≡ conversation.id
  of_source request behind =
      of_choice (source_heard conversation request behind) refl
      (λ framing. of_choice (body_delivered (greeted conversation request) _ _) refl (λ word. refl) _) (framing_of request)

  of_request : (request : RequestParts) (behind : List ℕ) (feeds hears : Bool)
      → (cond feeds (source_heard conversation request behind (framing_of request))
      (cond hears (get_heard conversation request) (refuses conversation BadMethod))).conversation.id ≡ conversation.id
  of_request request behind true hears = of_source request behind
  of_request request behind false true = refl
  of_request request behind false false = refl

module _ (conversation : Conversation) where
  of_head : (bytes : List ℕ) (reading : Result (Progress RequestParts) HeadFault)
      → (head_heard conversation bytes reading).conversation.id ≡ conversation.id
  of_head bytes (Ok More) = refl
  of_head bytes (Ok (Whole request length)) =
      of_request (nothing_held conversation) request (drop length bytes) (is_source request) (bytes_eq request.method (codes "GET"))
  of_head bytes (Err fault) = refl

  of_heard : (hears : Hears) (bytes : List ℕ) (heard : EventReading) → HearsAs hears conversation bytes heard → heard.conversation.id ≡ conversation.id
  of_heard Head bytes heard h = ap (λ (x : EventReading). x.conversation.id) h.2 ∙ of_head (conversation.held ++ bytes) h.0
  of_heard (Body body) bytes heard h =
      ap (λ (x : EventReading). x.conversation.id) h ∙ of_choice conversation (body_delivered (nothing_held conversation) _ _) refl (λ word. refl) _
  of_heard Nothing bytes heard h = ap (λ (x : EventReading). x.conversation.id) h

-- the event ends the connection, and its client leaves, unless the event was its leaving
left_by : (w : World) (id : ℕ) (event : Event) (asked : List Event) (leaves : Bool)
    → LeadBy w (Leave id) (event ∷ asked) (cond leaves (world_after w event) (world_after (world_after w event) (Leave id)))
left_by w id event asked true = (event ∷ [], record { front = event ∷ []; rest = asked; in_order = refl; come = inl refl }, refl)
left_by w id event asked false = (event ∷ Leave id ∷ [], record { front = event ∷ []; rest = asked; in_order = refl; come = inr refl }, refl)

then_lead : (w : World) (id : ℕ) (event : Event) (asked : List Event) (written : Said) (state : State) (others : WorldExchange)
    → LeadBy (world_after w event) (Leave id) asked others.world
    → LeadBy w (Leave id) (event ∷ asked) (then_exchanged (world_after w event) id event written state others).world
then_lead w id event asked written Running others (events, come, leads) = (event ∷ events, one_more (Leave id) event asked events come, leads)
then_lead w id event asked written (Shut ending) others lead = left_by w id event asked (is_leave event)

-- a client's exchange leads to its state by some of its events
exchanges_lead : (w : World) (id : ℕ) (says : Says) (asked : List Event) → LeadBy w (Leave id) asked (exchanged w id says asked).world
exchanges_lead w id says [] = ([], record { front = []; rest = []; in_order = refl; come = inl refl }, refl)
exchanges_lead w id says (event ∷ asked) =
    let written = said says (reply_to w event) in
    then_lead w id event asked written written.state (exchanged (world_after w event) id written.says asked) (exchanges_lead (world_after w event) id written.says asked)

-- a delivery yields events that lead to the state after it
abbrev Comes : ScriptState → Delivery → ScriptState → Type 0
Comes state delivery later = (events : List Event) × ComesToEvents state delivery events × (later.world ≡ world_after_all state.world events)

comes_as : (state : ScriptState) (delivery : Delivery) (p q : Performed) → p ≡ q → Comes state delivery q.state → Comes state delivery p.state
comes_as state delivery p q e c = subst (λ (x : Performed). Comes state delivery x.state) (sym e) c

module _ (state : ScriptState) (label : ℕ) where
  opened : (web : WebAnswers) (peer : Peer) (found : Option (Option Connection)) → Comes state (Open label peer) (for_new_label state (opens_connection web state label peer) found).state
  opened web peer None = (Arrive peer ∷ [], Arrives label peer, refl)
  opened web peer (Some connection) = ([], NoEvents (Open label peer), refl)

  module _ (conversation : Conversation) (connected : connection_of state.connections label ≡ Some (Some (Client conversation))) where
    exchange_comes : (input : Input) (now : Conversation) (asked : List Event) → now.id ≡ conversation.id → IsAskedBy conversation input asked
        → Comes state (To label input) (exchanges state label now asked).state
    exchange_comes input now asked his is_asked =
        let lead = exchanges_lead state.world now.id now.says asked in
        let come = subst (λ (id : ℕ). ComeAbout (Leave id) asked lead.0) his lead.1 in
        (lead.0, Exchanges label input conversation asked lead.0 connected is_asked come, lead.2)

    input_comes : (input : Input) (p : Performed) → ComesToClient state label conversation input p → Comes state (To label input) p.state
    input_comes (Data bytes) p h =
        comes_as state (To label (Data bytes)) p _ (sym h.2)
        (exchange_comes (Data bytes) h.0.conversation h.0.events (of_heard conversation conversation.hears bytes h.0 h.1) (h.0, h.1, refl))
    input_comes (Room room) p h =
        comes_as state (To label (Room room)) p _ (sym h) (exchange_comes (Room room) conversation (Draw conversation.id room ∷ []) refl refl)
    input_comes (Named text) p h =
        comes_as state (To label (Named text)) p _ (sym h)
        (exchange_comes (Named text) conversation (Title conversation.id (cleaned max_title text) ∷ []) refl refl)
    input_comes End p h =
        comes_as state (To label End) p (closes state label conversation) (sym h) (
          Leave conversation.id ∷ [],
          Exchanges label End conversation (Leave conversation.id ∷ []) (Leave conversation.id ∷ []) connected refl
              (record { front = Leave conversation.id ∷ []; rest = []; in_order = refl; come = inl refl }),
          refl,
        )

  connected : (mount : List ℕ) (relay : Option RelaySetting) (found : Option (Option Connection))
      → Comes state (Pull label mount) (for_new_label state (connects state label relay) found).state
  connected mount None None = ([], NoEvents (Pull label mount), refl)
  connected mount (Some relay) None = ([], NoEvents (Pull label mount), refl)
  connected mount relay (Some connection) = ([], NoEvents (Pull label mount), refl)

  module _ (pulling : Pulling) (connected : connection_of state.connections label ≡ Some (Some (Relay pulling))) where
    led : (input : Input) (now : Pulling) (ends : State) (w : World) (asked : ℕ → List Event) (lead : PullLeads state.world pulling.number asked w)
        → IsAskedByRelay pulling lead.id input (asked lead.id) → Comes state (To label input) (pulled_on state label now ends w).state
    led input now ends w asked lead is_asked = (
      lead.events,
      Pulls label input pulling lead.id (asked lead.id) lead.events connected lead.may is_asked lead.come,
      lead.leads,
    )

    asks_comes : (input : Input) (event : ℕ → Event) (p : Performed) → ((id : ℕ) → IsAskedByRelay pulling id input (event id ∷ []))
        → AsksOn state label pulling (option_map event pulling.number) p → Comes state (To label input) p.state
    asks_comes input event p is_asked h =
        let lead = asks_lead pulling.number event state.world h.1 h.0 h.2 in
        comes_as state (To label input) p _ (sym h.3)
        (led input (record pulling { number = h.0.number }) h.0.state h.1 (λ id. event id ∷ []) lead (is_asked lead.id))

    relay_comes : (input : Input) (p : Performed) → ComesToRelay state label pulling input p → Comes state (To label input) p.state
    relay_comes (Data bytes) p h =
        let pulled = h.3.0 in
        let lead = takes_lead pulling h.0 (items_of pulled.parts) pulled.standing h.1 state.world h.2 h.3.2 in
        comes_as state (To label (Data bytes)) p _ (sym h.4)
        (led (Data bytes) h.0 h.1 h.2 (λ id. map (event_of pulling.mount id) (items_of pulled.parts)) lead (pulled, h.3.1, refl))
    relay_comes (Room room) p h = asks_comes (Room room) (λ id. Draw id room) p (λ id. refl) h
    relay_comes (Named text) p h = asks_comes (Named text) (λ id. Title id (cleaned max_title text)) p (λ id. refl) h
    relay_comes End p h =
        let lead = goes_lead state.world h.0 pulling.number (λ id. []) h.1 in
        comes_as state (To label End) p _ (sym h.2) (led End pulling (Shut Done) h.0 (λ id. []) lead refl)

  connection_comes : (input : Input) (p : Performed) (connection : Connection) → connection_of state.connections label ≡ Some (Some connection)
      → ComesTo state label connection input p → Comes state (To label input) p.state
  connection_comes input p (Client conversation) known h = input_comes conversation known input p h
  connection_comes input p (Relay pulling) known h = relay_comes pulling known input p h

  label_comes : (input : Input) (p : Performed) (found : Option (Option Connection)) → connection_of state.connections label ≡ found
      → on_connection state (λ connection done. ComesTo state label connection input done) p found → Comes state (To label input) p.state
  label_comes input p None known h = comes_as state (To label input) p _ h ([], NoEvents (To label input), refl)
  label_comes input p (Some None) known h = comes_as state (To label input) p _ h ([], NoEvents (To label input), refl)
  label_comes input p (Some (Some connection)) known h = connection_comes input p connection known h

delivery_comes : (web : WebAnswers) (state : ScriptState) (delivery : Delivery) (p : Performed) → IsPerformed web state delivery p → Comes state delivery p.state
delivery_comes web state (Open label peer) p h = comes_as state (Open label peer) p _ h (opened state label web peer (connection_of state.connections label))
delivery_comes web state (Pull label mount) p h =
    comes_as state (Pull label mount) p _ h (connected state label mount (relay_named state.world mount) (connection_of state.connections label))
delivery_comes web state (To label input) p h = label_comes state label input p (connection_of state.connections label) refl h
delivery_comes web state (ClockIs ms) p h = comes_as state (ClockIs ms) p _ h (Clock ms ∷ [], Ticks ms, refl)

-- the run goes on in this state
abbrev Stands : ScriptState → Traced → Type 0
Stands state traced = state ≡ traced.state

traced_on : (web : WebAnswers) (old new : ScriptState) (traced : Traced) (delivery : Delivery) (lines : Option (List ℕ)) → Stands old traced → conduct web old delivery lines new
    → (next : Traced) × Stands new next × traces web traced delivery lines next
traced_on web old new traced delivery lines same performed =
    let here : conduct web traced.state delivery lines new = subst (λ (s : ScriptState). conduct web s delivery lines new) same performed in
    let c = delivery_comes web traced.state delivery (record { lines = lines; state = new }) here in
    (record { state = new; events = traced.events ++ c.0 }, refl, (here, c.0, c.1, refl, c.2))

pub scripts_come : (web : WebAnswers) (settings : Settings) (lists : Lists) (deliveries : List Delivery) (text : List ℕ) (stop : Option ℕ)
    → IsTranscriptOf web settings lists deliveries text stop → (events : List Event) × ComeToEvents web settings lists deliveries text stop events
scripts_come web settings lists deliveries text stop (last, run) =
    let start : Traced = record { state = opening_script settings lists; events = [] } in
    let r = runs (conduct web) (traces web) Stands (traced_on web) deliveries (opening_script settings lists) last start 1 text stop refl run in
    (r.0.events, (r.0.state, r.2))
