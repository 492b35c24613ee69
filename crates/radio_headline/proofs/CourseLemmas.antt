-- A script's deliveries yield a course, and the state of each connection follows from what has happened on it.
use Rattle.std.proofs.Common.{◌≡◌, ℕ, List, [], ◌∷◌, ◌++◌, Option, None, Some, refl, sym, ap, subst, ◌∙◌}
use Rattle.radio_headline.proofs.Words.{map, concat, append-nil, Peer, blocks_of, Settings, RelaySetting, Lists, Entry, Event, Arrive, Title, Draw, Leave, Clock, Reply, Arrived, Feeding, Seated, Drawn, Text, Deny}
use Rattle.radio_headline.proofs.Words.{Finished, Stray, run_after, world_after_all, reply_to, world_after, World, opening, ShowsRequest, IsStableReading, HeadsLieWithin, Place, after, data_of, State, Running, Shut}
use Rattle.radio_headline.proofs.Words.{Done, Conversation, asking, saying_now, exchanged, EventReading, said, Pulling, NumberedState, pulling_begun, AsksIf, Delivery, Open, Pull, To, Input, Data, Room, End}
use Rattle.radio_headline.proofs.Words.{TranscriptLine, given, transcript_text, Connection, Client, Relay, Labelled, ScriptState, Performed, AsksOn, ComesTo, ComesToClient, ComesToRelay, IsPerformed, closes}
use Rattle.radio_headline.proofs.Words.{connection_of, connection_unless, connects, exchanges, for_new_label, kept_unless, last_word, on_connection, written_lines, opens_connection, with_connection, pulled_on}
use Rattle.radio_headline.proofs.Words.{relay_named, taken_in, ComesToNoted, Happening, Happens, HappensThere, IsAsked, and_then, applied, arrival_at_label, events_in, noting, nothing_noted, on, applied_entry, log_on}
use Rattle.radio_headline.proofs.Words.{brought, bytes_in, pushed_by, ShowsResponse, AfterPieces, HeardInPieces, Head, WebAnswers}
use Rattle.std.specs.Option.{option_map}
use Rattle.radio_values.specs.Cleaning.{cleaned}
use Rattle.radio_values.specs.Limits.{max_title}
use Rattle.radio_events.specs.declared.reply.Reply.TheVariants.{Noted as WasNoted}
use Rattle.radio_relay.specs.Request.{request_text}
use Rattle.radio_script.specs.declared.delivery.Delivery.TheVariants.{Clock as ClockIs}
use Rattle.radio_script.specs.declared.delivery.Input.TheVariants.{Title as Named}
use Rattle.radio_headline.specs.Course.{Noted}
use Rattle.radio_headline.proofs.Logs.{entries, log_joined, after_joined, events_joined}
use Rattle.radio_headline.proofs.AppliedLemmas.{applied_lead}
use Rattle.radio_headline.proofs.Relays.RelayLogs.{asks_if_lifts, at, down_lifts}
use Rattle.radio_headline.proofs.Relays.RelayWords.{IsNoUp, OfRelay}
use Rattle.radio_headline.proofs.Connections.{HasAskedNothing, IsClosed, IsClient, IsRelay, IsSo, AtAnswer, AtHead}
use Rattle.radio_headline.proofs.ConnectionSteps.{data_come, idle_comes, end_comes}
use Rattle.radio_headline.proofs.Relays.PullSteps.{asks_so, down_so, more_facts, takes_so}
use Rattle.radio_headline.proofs.LabelLemmas.{answer, answer_here, answer_elsewhere, answer_written, opened_here, opened_elsewhere, with_here, with_elsewhere}
use Rattle.radio_headline.proofs.Standing.{brought_joined, brought_here, brought_elsewhere, IsSo_as, Stands, nowhere_joined, Changes, then_stands}

module _ (web : WebAnswers) (settings : Settings) (lists : Lists) (settled : IsStableReading ShowsRequest) (within : HeadsLieWithin ShowsRequest)
    (settled_answers : IsStableReading ShowsResponse) (within_answers : HeadsLieWithin ShowsResponse) (none_blocks : blocks_of [] ≡ []) (in_pieces : HeardInPieces)
    (afters : AfterPieces) (joined : (bytes : List ℕ) → concat (blocks_of bytes) ≡ bytes)
    (places : (place : Place) (first second : List ℕ) → after place (first ++ second) ≡ after (after place first) second)
    (data_joined : (place : Place) (first second : List ℕ) → data_of place (first ++ second) ≡ data_of place first ++ data_of (after place first) second) where
  abbrev w0 : World
  w0 = opening settings lists

  module _ (done : List Delivery) (state : ScriptState) (past : List Happening) (lines : List TranscriptLine) (s : Stands web settings lists done state past lines) where
    -- a delivery is performed, and this is the state then
    pub record Next (delivery : Delivery) (text : List ℕ) (later : ScriptState) : Type 0 where
      pub happenings : List Happening
      pub happen : Happens state delivery happenings
      pub told : List TranscriptLine
      pub is_written : transcript_text told ≡ text
      pub stands : Stands web settings lists (done ++ delivery ∷ []) later (past ++ happenings) (lines ++ told)

    next_as : (delivery : Delivery) (text : List ℕ) (p q : Performed) → p ≡ q → p.lines ≡ Some text
        → ((text : List ℕ) → q.lines ≡ Some text → Next delivery text q.state) → Next delivery text p.state
    next_as delivery text p q e told make =
        subst (λ (x : Performed). Next delivery text x.state) (sym e) (make text (ap (λ (x : Performed). x.lines) (sym e) ∙ told))

    -- a connection comes
    opens_next : (label : ℕ) (peer : Peer) (found : Option (Option Connection)) → connection_of state.connections label ≡ found → (text : List ℕ)
        → (for_new_label state (opens_connection web state label peer) found).lines ≡ Some text
        → Next (Open label peer) text (for_new_label state (opens_connection web state label peer) found).state
    opens_next label peer (Some connection) known text told = cc
    opens_next label peer None known text told =
        let reply = reply_to state.world (Arrive peer) in
        let of = said (asking web) reply in
        let connection = taken_in web peer reply in
        record {
          happenings = on label (Arrive peer) ∷ [];
          happen = ap (arrival_at_label label peer) (sym known);
          told = answer label of.bytes (last_word of.state);
          is_written = answer_written label of.bytes (last_word of.state) ∙ the_text told;
          stands = then_stands web settings lists done state past lines s (opens_connection web state label peer).state (Open label peer) (Arrive peer ∷ []) (answer label of.bytes (last_word of.state)) label (record {
            world = refl;
            here = IsSo_as web _ _ _ _ _ _ _ _ (sym (opened_here state.connections label connection known)) (sym (append-nil (brought done label)))
                (ap (λ (xs : List Entry). xs ++ applied_entry state.world (Arrive peer) ∷ []) (sym unopened.1))
                (ap (λ (xs : List ℕ). xs ++ of.bytes) (sym unopened.2)
                ∙ ap (λ (xs : List ℕ). given lines label ++ xs) (sym (answer_here label of.bytes (last_word of.state))))
                (arrives_so (brought done label) unopened.0 reply);
            connections = λ other apart. opened_elsewhere state.connections label other connection apart known;
            silent = λ other apart. refl;
            untold = λ other apart. answer_elsewhere label other of.bytes (last_word of.state) apart;
          });
        } where
          unopened : (brought done label ≡ []) × (log_on w0 past label ≡ []) × (given lines label ≡ [])
          unopened = subst (λ (o : Option (Option Connection)). IsSo web o (brought done label) (log_on w0 past label) (given lines label)) known (s.each label)

          the_text : Some (written_lines label (said (asking web) (reply_to state.world (Arrive peer))).bytes (said (asking web) (reply_to state.world (Arrive peer))).state)
              ≡ Some text → written_lines label (said (asking web) (reply_to state.world (Arrive peer))).bytes (said (asking web) (reply_to state.world (Arrive peer))).state ≡ text
          the_text e = cc

          not_there : (bytes : List ℕ) (reply : Reply) (given : List ℕ) → IsClosed web bytes (record { event = Arrive peer; reply = reply } ∷ []) given
          not_there bytes reply given = record { own = ((λ id h. cc), tt); facts = HasAskedNothing ((λ a. a), tt) }

          arrives_so : (bytes : List ℕ) → bytes ≡ [] → (reply : Reply)
              → IsSo web (Some (taken_in web peer reply)) bytes (record { event = Arrive peer; reply = reply } ∷ []) ((said (asking web) reply).bytes)
          arrives_so bytes none (Arrived id) = record {
            others = [];
            arrived = refl;
            his = tt;
            goes_on = ((λ h. h), tt);
            stage = AtHead [] refl tt refl (sym none) (record { says = refl; goes = (refl, tt); is_told = refl });
          }
          arrives_so bytes none Feeding = not_there bytes Feeding _
          arrives_so bytes none (Seated interval head) = not_there bytes (Seated interval head) _
          arrives_so bytes none (Drawn sound title) = not_there bytes (Drawn sound title) _
          arrives_so bytes none WasNoted = not_there bytes WasNoted _
          arrives_so bytes none (Text text) = not_there bytes (Text text) _
          arrives_so bytes none (Deny rule) = not_there bytes (Deny rule) _
          arrives_so bytes none (Finished rule) = not_there bytes (Finished rule) _
          arrives_so bytes none Stray = not_there bytes Stray _

    -- a relay connects
    connects_next : (label : ℕ) (mount : List ℕ) (relay : Option RelaySetting) (found : Option (Option Connection))
        → connection_of state.connections label ≡ found → (text : List ℕ)
        → (for_new_label state (connects state label relay) found).lines ≡ Some text
        → Next (Pull label mount) text (for_new_label state (connects state label relay) found).state
    connects_next label mount wanted (Some connection) known text told = cc
    connects_next label mount None None known text told = cc
    connects_next label mount (Some relay) None known text told = record {
      happenings = [];
      happen = refl;
      told = answer label (request_text relay) None;
      is_written = answer_written label (request_text relay) None ∙ the_text told;
      stands = then_stands web settings lists done state past lines s (connects state label (Some relay)).state (Pull label mount) [] (answer label (request_text relay) None) label (record {
        world = refl;
        here = IsSo_as web _ _ _ _ _ _ _ _ (sym (opened_here state.connections label (Some (Relay (pulling_begun relay.local_mount))) known)) (sym (append-nil (brought done label)))
            (sym (append-nil (log_on w0 past label) ∙ unopened.1)) refl
            (relay_begins relay.local_mount);
        connections = λ other apart. opened_elsewhere state.connections label other (Some (Relay (pulling_begun relay.local_mount))) apart known;
        silent = λ other apart. refl;
        untold = λ other apart. answer_elsewhere label other (request_text relay) None apart;
      });
    } where
      unopened : (brought done label ≡ []) × (log_on w0 past label ≡ []) × (given lines label ≡ [])
      unopened = subst (λ (o : Option (Option Connection)). IsSo web o (brought done label) (log_on w0 past label) (given lines label)) known (s.each label)

      the_text : Some (written_lines label (request_text relay) Running) ≡ Some text → written_lines label (request_text relay) Running ≡ text
      the_text e = cc

      relay_begins : (local : List ℕ) → IsRelay (brought done label) [] (pulling_begun local)
      relay_begins local = record { own = tt; number = refl; stage = AtAnswer (ap Head (sym unopened.0)) refl }

    -- the moment is another
    clock_next : (ms : ℕ) (text : List ℕ) → Some [] ≡ Some text → Next (ClockIs ms) text (record state { world = world_after state.world (Clock ms) })
    clock_next ms text told = record {
      happenings = record { label = None; event = Clock ms } ∷ [];
      happen = refl;
      told = [];
      is_written = the_text told;
      stands = record {
        world = ap (λ (x : World). world_after x (Clock ms)) s.world ∙ sym (after_joined w0 (events_in past) (Clock ms ∷ []))
            ∙ ap (run_after settings lists) (sym (events_joined past (record { label = None; event = Clock ms } ∷ [])));
        each = λ label. IsSo_as web _ _ _ _ _ _ _ _ refl
            (sym (brought_joined done (ClockIs ms ∷ []) label ∙ append-nil (brought done label)))
            (sym (log_joined w0 past (record { label = None; event = Clock ms } ∷ []) label ∙ append-nil (log_on w0 past label)))
            (ap (λ (xs : List TranscriptLine). given xs label) (sym (append-nil lines))) (s.each label);
        nowhere = nowhere_joined web settings lists past (record { label = None; event = Clock ms } ∷ []) s.nowhere ((λ e. tt), tt);
      };
    } where
      the_text : Some [] ≡ Some text → [] ≡ text
      the_text e = cc

    -- an input arrives on an open connection
    module _ (label : ℕ) (input : Input) where
      comes_there : (later : ScriptState) (events : List Event) (bytes : List ℕ) (word : Option (List ℕ)) (text : List ℕ) (new : Option Connection)
          → later.world ≡ world_after_all state.world events → later.connections ≡ with_connection state.connections label new
          → (old : Option Connection) → connection_of state.connections label ≡ Some old
          → IsSo web (Some new) (brought done label ++ bytes_in input) (log_on w0 past label ++ entries state.world events) (given lines label ++ bytes)
          → Changes web settings lists done state later past lines (To label input) events (answer label bytes word) label
      comes_there later events bytes word text new world connections old known so = record {
        world = world;
        here = IsSo_as web _ _ _ _ _ _ _ _
            (sym (ap (λ (xs : List Labelled). connection_of xs label) connections ∙ with_here state.connections label old new known))
            (ap (λ (xs : List ℕ). brought done label ++ xs) (sym (brought_here label input))) refl
            (ap (λ (xs : List ℕ). given lines label ++ xs) (sym (answer_here label bytes word))) so;
        connections = λ other apart. ap (λ (xs : List Labelled). connection_of xs other) connections
            ∙ with_elsewhere state.connections label other new apart;
        silent = λ other apart. brought_elsewhere label other input apart;
        untold = λ other apart. answer_elsewhere label other bytes word apart;
      }

      module _ (conversation : Conversation) (known : connection_of state.connections label ≡ Some (Some (Client conversation))) where
        client : IsClient web (brought done label) (log_on w0 past label) (given lines label) conversation
        client = subst (λ (o : Option (Option Connection)). IsSo web o (brought done label) (log_on w0 past label) (given lines label)) known (s.each label)

        -- its events are exchanged
        exchange_next : (heard : EventReading) → IsAsked conversation input heard
            → (let x = exchanged state.world heard.conversation.id heard.conversation.says heard.events in
            IsSo web (Some (connection_unless (Some (Client (saying_now heard.conversation x.exchange.says))) x.exchange.state))
            (brought done label ++ bytes_in input)
            (log_on w0 past label ++ entries state.world (applied state.world heard.conversation.id heard.conversation.says heard.events))
            (given lines label ++ x.exchange.bytes))
            → (text : List ℕ) → (exchanges state label heard.conversation heard.events).lines ≡ Some text
            → Next (To label input) text (exchanges state label heard.conversation heard.events).state
        exchange_next heard asked so text told =
            let x = exchanged state.world heard.conversation.id heard.conversation.says heard.events in
            let events = applied state.world heard.conversation.id heard.conversation.says heard.events in
            record {
              happenings = map (on label) events;
              happen = subst (λ (o : Option (Option Connection)). HappensThere state label input (map (on label) events) o) (sym known) (heard, asked, refl);
              told = answer label x.exchange.bytes (last_word x.exchange.state);
              is_written = answer_written label x.exchange.bytes (last_word x.exchange.state) ∙ the_text told;
              stands = then_stands web settings lists done state past lines s (exchanges state label heard.conversation heard.events).state (To label input) events
                  (answer label x.exchange.bytes (last_word x.exchange.state)) label
                  (comes_there (exchanges state label heard.conversation heard.events).state events x.exchange.bytes (last_word x.exchange.state) text
                  (kept_unless (Client (saying_now heard.conversation x.exchange.says)) x.exchange.state)
                  (applied_lead state.world heard.conversation.id heard.conversation.says heard.events) refl (Some (Client conversation)) known so);
            } where
              the_text : (exchanges state label heard.conversation heard.events).lines ≡ Some text
                  → written_lines label (exchanged state.world heard.conversation.id heard.conversation.says heard.events).exchange.bytes
                  (exchanged state.world heard.conversation.id heard.conversation.says heard.events).exchange.state ≡ text
              the_text e = cc

      module _ (pulling : Pulling) (known : connection_of state.connections label ≡ Some (Some (Relay pulling))) where
        relay : IsRelay (brought done label) (log_on w0 past label) pulling
        relay = subst (λ (o : Option (Option Connection)). IsSo web o (brought done label) (log_on w0 past label) (given lines label)) known (s.each label)

        -- its pull goes on, or is shut
        pulls_next : (now : Pulling) (ends : State) (w : World) (events : List Event) → ComesToNoted state.world pulling input (at w events)
            → w ≡ world_after_all state.world events
            → IsSo web (Some (connection_unless (Some (Relay now)) ends)) (brought done label ++ bytes_in input) (log_on w0 past label ++ entries state.world events)
            (given lines label ++ [])
            → (text : List ℕ) → (pulled_on state label now ends w).lines ≡ Some text → Next (To label input) text (pulled_on state label now ends w).state
        pulls_next now ends w events noted leads so text told = record {
          happenings = map (on label) events;
          happen = subst (λ (o : Option (Option Connection)). HappensThere state label input (map (on label) events) o) (sym known) (at w events, noted, refl);
          told = answer label [] (last_word ends);
          is_written = answer_written label [] (last_word ends) ∙ the_text told;
          stands = then_stands web settings lists done state past lines s (pulled_on state label now ends w).state (To label input) events (answer label [] (last_word ends)) label
              (comes_there (pulled_on state label now ends w).state events [] (last_word ends) text (kept_unless (Relay now) ends) leads refl
              (Some (Relay pulling)) known
              so);
        } where
          the_text : (pulled_on state label now ends w).lines ≡ Some text → written_lines label [] ends ≡ text
          the_text e = cc

    -- an input arrives on a client's connection
    client_next : (label : ℕ) (conversation : Conversation) → connection_of state.connections label ≡ Some (Some (Client conversation)) → (input : Input)
        → (p : Performed) → ComesToClient state label conversation input p → (text : List ℕ) → p.lines ≡ Some text → Next (To label input) text p.state
    client_next label conversation known (Data bytes) p h text told =
        next_as (To label (Data bytes)) text p _ (sym h.2) told
        (exchange_next label (Data bytes) conversation known h.0 h.1
        (data_come web settled within joined places data_joined state.world (brought done label) (log_on w0 past label) (given lines label) conversation
        (client label (Data bytes) conversation known) bytes h.0 h.1))
    client_next label conversation known (Room room) p h text told =
        next_as (To label (Room room)) text p _ (sym h) told
        (exchange_next label (Room room) conversation known (record { events = Draw conversation.id room ∷ []; conversation = conversation }) refl
        (idle_comes web settled within joined places data_joined state.world (brought done label) (log_on w0 past label) (given lines label) conversation
        (client label (Room room) conversation known) (Draw conversation.id room) refl))
    client_next label conversation known (Named text) p h written_text told =
        next_as (To label (Named text)) written_text p _ (sym h) told
        (exchange_next label (Named text) conversation known
        (record { events = Title conversation.id (cleaned max_title text) ∷ []; conversation = conversation }) refl
        (idle_comes web settled within joined places data_joined state.world (brought done label) (log_on w0 past label) (given lines label) conversation
        (client label (Named text) conversation known) (Title conversation.id (cleaned max_title text)) refl))
    client_next label conversation known End p h text told = next_as (To label End) text p _ (sym h) told ends_next where
      leaves_alone : (state : State) → and_then conversation.id (Leave conversation.id) state [] ≡ Leave conversation.id ∷ []
      leaves_alone Running = refl
      leaves_alone (Shut ending) = refl

      the_text : (words : List ℕ) → Some (written_lines label [] (Shut Done)) ≡ Some words → written_lines label [] (Shut Done) ≡ words
      the_text words e = cc

      ends_next : (words : List ℕ) → (closes state label conversation).lines ≡ Some words → Next (To label End) words (closes state label conversation).state
      ends_next words e = record {
        happenings = map (on label) (Leave conversation.id ∷ []);
        happen = subst (λ (o : Option (Option Connection)). HappensThere state label End (map (on label) (Leave conversation.id ∷ [])) o) (sym known) (
          record { events = Leave conversation.id ∷ []; conversation = conversation },
          refl,
          ap (map (on label)) (sym (leaves_alone (said conversation.says (reply_to state.world (Leave conversation.id))).state)),
        );
        told = answer label [] (last_word (Shut Done));
        is_written = answer_written label [] (last_word (Shut Done)) ∙ the_text words e;
        stands = then_stands web settings lists done state past lines s (closes state label conversation).state (To label End) (Leave conversation.id ∷ []) (answer label [] (last_word (Shut Done))) label
            (comes_there label End (closes state label conversation).state (Leave conversation.id ∷ []) [] (last_word (Shut Done)) words None refl refl
            (Some (Client conversation)) known
            (end_comes web settled within joined places data_joined state.world (brought done label) (log_on w0 past label) (given lines label) conversation
            (client label End conversation known)));
      }

    -- an input arrives on a relay's connection
    module _ (label : ℕ) (pulling : Pulling) (known : connection_of state.connections label ≡ Some (Some (Relay pulling))) where
      no_bytes_came : (input : Input) → bytes_in input ≡ [] → (connection : Option Connection) (events : List Event)
          → IsSo web (Some connection) (brought done label) (log_on w0 past label ++ entries state.world events) (given lines label ++ [])
          → IsSo web (Some connection) (brought done label ++ bytes_in input) (log_on w0 past label ++ entries state.world events) (given lines label ++ [])
      no_bytes_came input none connection events so =
          subst (λ (bytes : List ℕ). IsSo web (Some connection) bytes (log_on w0 past label ++ entries state.world events) (given lines label ++ []))
          (sym (ap (λ (xs : List ℕ). brought done label ++ xs) none ∙ append-nil (brought done label))) so

      asks_next : (input : Input) (event : ℕ → Event) → ((id : ℕ) → OfRelay (Some id) (event id)) → ((id : ℕ) → pushed_by (event id) ≡ [])
          → ((id : ℕ) → IsNoUp (event id)) → bytes_in input ≡ []
          → ((after : NumberedState) (done : Noted) → AsksIf noting pulling.number (option_map event pulling.number) (nothing_noted state.world) after done
          → ComesToNoted state.world pulling input done)
          → (p : Performed) → AsksOn state label pulling (option_map event pulling.number) p → (text : List ℕ) → p.lines ≡ Some text
          → Next (To label input) text p.state
      asks_next input event his silent plain no_bytes comes p h text told =
          let l = asks_if_lifts pulling.number (option_map event pulling.number) state.world h.1 [] h.0 h.2 in
          next_as (To label input) text p _ (sym h.3) told
          (pulls_next label input pulling known (record pulling { number = h.0.number }) h.0.state h.1 l.events (comes h.0 (at h.1 l.events) l.lifted) l.leads
          (no_bytes_came input no_bytes (connection_unless (Some (Relay (record pulling { number = h.0.number }))) h.0.state) l.events
          (asks_so web settled_answers within_answers joined none_blocks in_pieces afters state.world (brought done label) (log_on w0 past label) pulling
          (relay label input pulling known) (given lines label ++ []) event l.events h.0 his silent plain l.are)))

      relay_next : (input : Input) (p : Performed) → ComesToRelay state label pulling input p → (text : List ℕ) → p.lines ≡ Some text
          → Next (To label input) text p.state
      relay_next (Data bytes) p h text told =
          let t = takes_so web settled_answers within_answers joined none_blocks in_pieces afters state.world (brought done label) (log_on w0 past label) pulling
          (relay label (Data bytes) pulling known) (given lines label ++ []) bytes h.0 h.1 h.2 h.3 in
          next_as (To label (Data bytes)) text p _ (sym h.4) told (pulls_next label (Data bytes) pulling known h.0 h.1 h.2 t.events t.done t.leads t.so)
      relay_next (Room room) p h text told =
          asks_next (Room room) (λ id. Draw id room) (λ id. refl) (λ id. refl) (λ id. tt) refl (λ after done a. (after, a)) p h text told
      relay_next (Named name) p h text told =
          asks_next (Named name) (λ id. Title id (cleaned max_title name)) (λ id. refl) (λ id. refl) (λ id. tt) refl (λ after done a. (after, a)) p h text told
      relay_next End p h text told =
          let d = down_lifts pulling.number state.world h.0 [] h.1 in
          next_as (To label End) text p _ (sym h.2) told
          (pulls_next label End pulling known pulling (Shut Done) h.0 d.events d.lifted d.leads
          (no_bytes_came End refl None d.events
          (down_so web settled_answers within_answers joined none_blocks in_pieces afters state.world (brought done label) (log_on w0 past label) pulling
          (relay label End pulling known) (given lines label ++ []) Done d.events d.are)))

    -- nothing happens on a connection that was shut
    shut_next : (label : ℕ) (input : Input) → connection_of state.connections label ≡ Some None → (text : List ℕ) → Some [] ≡ Some text
        → Next (To label input) text state
    shut_next label input known text told = record {
      happenings = [];
      happen = subst (λ (o : Option (Option Connection)). HappensThere state label input [] o) (sym known) refl;
      told = [];
      is_written = the_text told;
      stands = then_stands web settings lists done state past lines s state (To label input) [] [] label (record {
        world = refl;
        here = IsSo_as web _ _ _ _ _ _ _ _ (sym known) (ap (λ (xs : List ℕ). brought done label ++ xs) (sym (brought_here label input)))
            (sym (append-nil (log_on w0 past label))) (sym (append-nil (given lines label))) closed;
        connections = λ other apart. refl;
        silent = λ other apart. brought_elsewhere label other input apart;
        untold = λ other apart. refl;
      });
    } where
      the_text : Some [] ≡ Some text → [] ≡ text
      the_text e = cc

      was : IsClosed web (brought done label) (log_on w0 past label) (given lines label)
      was = subst (λ (o : Option (Option Connection)). IsSo web o (brought done label) (log_on w0 past label) (given lines label)) known (s.each label)

      closed : IsClosed web (brought done label ++ bytes_in input) (log_on w0 past label) (given lines label)
      closed = record {
        own = was.own;
        facts = more_facts web settled_answers within_answers joined none_blocks in_pieces afters settled within places data_joined (brought done label) (bytes_in input) (log_on w0 past label) (given lines label) was.facts;
      }

    there_next : (label : ℕ) (input : Input) (found : Option (Option Connection)) → connection_of state.connections label ≡ found → (p : Performed)
        → on_connection state (λ connection done. ComesTo state label connection input done) p found → (text : List ℕ) → p.lines ≡ Some text
        → Next (To label input) text p.state
    there_next label input None known p h text told = let both : None ≡ Some text = sym (ap (λ (x : Performed). x.lines) h) ∙ told in cc
    there_next label input (Some None) known p h text told = next_as (To label input) text p _ h told (shut_next label input known)
    there_next label input (Some (Some (Client conversation))) known p h text told = client_next label conversation known input p h text told
    there_next label input (Some (Some (Relay pulling))) known p h text told = relay_next label pulling known input p h text told

    pub performs_next : (delivery : Delivery) (p : Performed) → IsPerformed web state delivery p → (text : List ℕ) → p.lines ≡ Some text → Next delivery text p.state
    performs_next (Open label peer) p h text told =
        next_as (Open label peer) text p _ h told (opens_next label peer (connection_of state.connections label) refl)
    performs_next (Pull label mount) p h text told =
        next_as (Pull label mount) text p _ h told
        (connects_next label mount (relay_named state.world mount) (connection_of state.connections label) refl)
    performs_next (To label input) p h text told = there_next label input (connection_of state.connections label) refl p h text told
    performs_next (ClockIs ms) p h text told = next_as (ClockIs ms) text p _ h told (clock_next ms)
