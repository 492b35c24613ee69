-- what comes of an event is the same where only a queue is kept of each stream
use Rattle.std.proofs.Common.{◌≡◌, Bool, ℕ, ◌+◌, ◌==◌, ◌||◌, Option, Some, None, is_some, List, length, refl, ap, sym, ◌∙◌, arith, subst}
use Rattle.radio_core.proofs.Words.{fun_ext, nat_lt, if◌then◌else◌, option_map, bytes_eq, length-map, source_rows, relay_rows, push_rows, listen_rows, command_rows, verdict_in, Peer, Each, found_has, Seat, seat_of}
use Rattle.radio_core.proofs.Words.{Sight, found_at, landing, stop_in, SourceRequest, ListenRequest, Event, Arrive, Source, Push, SourceEnd, Title, Listen, Draw, Leave, RelayUp, RelayDown, Clock, Shown, StationState}
use Rattle.radio_core.proofs.Words.{Nothing, Answer, TakeSeat, Advance, Obey, Outcome, Seated, Drawn, Asked, MoveClients, KillClient, KillSource, SetTitle, SetFallback, AddUser, DeleteUser, Listing, Status, Stats}
use Rattle.radio_core.proofs.Words.{Mounts, Clients, Streams, To, carried, is_listener_at, needs_of, facts_for, facts_asked, access_to, needs_to_list, opened_by, rows_to_command, counts_by, Lands, Stops, largest_number}
use Rattle.radio_core.proofs.Words.{is_limit_reached, is_in_settings, sight_of, walks_to, source_facts, relay_facts, listen_facts, names_mount, kept_session, kept_of, burst_of, head_of, interval_for, first_seat}
use Rattle.radio_core.proofs.Words.{takes_seat, sits_where, says, on_verdict, if_undecided, if_feeding, if_sitting, takes_in, Session, is_of, session_of, HasRisingStarts, raises, SeatsAreKept, outcome, World}
use Rattle.radio_core.proofs.Words.{standing_of, kept_data, kept_burst, kept_ends, WebPath, heard_at, heard_cases}
use Rattle.radio_policy.specs.declared.facts.SourceFacts.{SourceFacts}
use Rattle.radio_policy.specs.declared.facts.RelayFacts.{RelayFacts}
use Rattle.radio_policy.specs.declared.facts.ListenFacts.{ListenFacts}
use Rattle.radio_policy.specs.declared.facts.CommandFacts.{CommandFacts}
use Rattle.radio_policy.specs.declared.facts.CommandNeeds.{CommandNeeds}
use Rattle.radio_policy.specs.declared.facts.CommandNeeds.TheVariants.{Mount as MountNeeds, Destination, Client as ClientNeeds}
use Rattle.radio_access.specs.ContentTypes.{is_refused_type}
use Rattle.radio_access.specs.SourcePair.{is_source_pair}
use Rattle.radio_events.specs.declared.event.Event.TheVariants.{Command}
use Rattle.radio_events.specs.declared.reply.Reply.TheVariants.{Text as SaysText}
use Rattle.radio_creds.specs.Credentials.{Credentials}
use Rattle.radio_events.specs.declared.command.Asked.TheVariants.{NoCommand, MissingArgument, Listing as AsksFor, Command as Asks}
use Rattle.radio_events.specs.declared.command.Command.{Command as TheCommand}
use Rattle.radio_events.specs.declared.command.CommandRequest.{CommandRequest}
use Rattle.radio_events.specs.declared.text.ReplyText.{ReplyText}
use Rattle.radio_fallback.specs.declared.moves.Carried.{Carried}
use Rattle.radio_parts.specs.Command.{said_of, does_asked, command_outcome}
use Rattle.radio_parts.specs.Draw.{hands_out}
use Rattle.radio_parts.proofs.DrawLemmas.{hands_out_at, draws_so}
use Rattle.radio_fallback.specs.declared.walking.Landing.{Landing}
use Rattle.radio_parts.specs.Source.{begins}
use Rattle.radio_core.proofs.Kept.KeptSights.{has_session, same_sight, heard_kept}
use Rattle.radio_core.proofs.Kept.KeptListings.{shown_kept, page_kept}
use Rattle.radio_parts.specs.Pages.{asks_by}
use Rattle.radio_settings_values.specs.Web.{web_path}

module _ (w : World) (rise : Each HasRisingStarts w.station.live) (kept : SeatsAreKept w) where
  abbrev queue : ℕ
  queue = w.station.settings.limits.queue_size

  abbrev kept_station : StationState
  kept_station = (kept_of w).station

  found_rises : (mount : List ℕ) (session : Session) → session_of w.station.live mount ≡ Some session → HasRisingStarts session
  found_rises mount session e = found_has (is_of mount) HasRisingStarts w.station.live session rise e

  heard_rises : (mount : List ℕ) (session : Session) → heard_at w.station mount ≡ Some session → HasRisingStarts session
  heard_rises mount session e =
      heard_cases w.station mount session e (found_rises mount session) (λ none silent. subst (λ (x : Session). HasRisingStarts x) silent tt)

  -- a source asks
  feed_facts : (asked : SourceRequest) → source_facts kept_station asked ≡ source_facts w.station asked
  feed_facts asked =
      let facts : ℕ → Bool → Option SourceFacts = λ count live. (if names_mount w.station.settings asked.mount then Some (record {
        is_source_pair = is_source_pair w.station.settings asked.mount asked.pair;
        sources_are_full = is_limit_reached count w.station.settings.limits.sources;
        mount_is_live = live;
        type_is_refused = is_refused_type asked.shown.content_type;
      }) else None) in
      ap (λ (count : ℕ). facts count (is_some (session_of kept_station.live asked.mount))) (length-map w.station.live (kept_session queue))
      ∙ ap (facts (length w.station.live)) (has_session w rise asked.mount)

  -- a relay comes up
  raise_facts : (mount : List ℕ) (shown : Shown) → relay_facts kept_station mount shown ≡ relay_facts w.station mount shown
  raise_facts mount shown =
      let facts : ℕ → Bool → Option RelayFacts = λ count live. (if names_mount w.station.settings mount then Some (record {
        sources_are_full = is_limit_reached count w.station.settings.limits.sources;
        mount_is_live = live;
        type_is_refused = is_refused_type shown.content_type;
        number_is_spent = w.station.last_id == largest_number;
      }) else None) in
      ap (λ (count : ℕ). facts count (is_some (session_of kept_station.live mount))) (length-map w.station.live (kept_session queue))
      ∙ ap (facts (length w.station.live)) (has_session w rise mount)

  -- a listener asks
  hear_facts : (asked : ListenRequest) → listen_facts kept_station w.seats asked ≡ listen_facts w.station w.seats asked
  hear_facts asked =
      let facts : Sight → Bool → Option ListenFacts = λ sight live.
      (if names_mount w.station.settings asked.mount then Some (record {
        mount_is_known = is_in_settings w.station.settings asked.mount || live;
        users_accept = (found_at sight w.seats asked.mount asked.pair).users_accept;
        user_is_twice = (found_at sight w.seats asked.mount asked.pair).user_is_twice;
        walk_stops = stop_in (landing sight w.seats asked.pair asked.mount);
      }) else None) in
      ap (λ (sight : Sight). facts sight (is_some (session_of kept_station.live asked.mount))) (same_sight w rise)
      ∙ ap (facts (sight_of w.station)) (has_session w rise asked.mount)

  sits_alike : (asked : ListenRequest) (peer : Peer) (found : Option Session) → ((session : Session) → found ≡ Some session → HasRisingStarts session)
      → takes_seat kept_station asked peer (option_map (kept_session queue) found) ≡ takes_seat w.station asked peer found
  sits_alike asked peer None rises = refl
  sits_alike asked peer (Some session) rises =
      ap (λ (place : ℕ). says (Seated (interval_for w.station asked.mount asked.wants_metadata) (head_of w.station session.shown))
      (TakeSeat asked.id (record (first_seat w.station asked peer session) { place = place })))
      (kept_burst queue (burst_of w.station session.mount) session.stream (omega arith) (rises session refl))

  lands_alike : (asked : ListenRequest) (peer : Peer) (l : Landing) → sits_where kept_station asked peer l ≡ sits_where w.station asked peer l
  lands_alike asked peer (Stops rule) = refl
  lands_alike asked peer (Lands mount) =
      ap (takes_seat kept_station asked peer) (heard_kept w rise mount)
      ∙ sits_alike asked peer (heard_at w.station mount) (heard_rises mount)

  hears_alike : (asked : ListenRequest) (peer : Peer)
      → sits_where kept_station asked peer (walks_to kept_station w.seats asked.mount asked.pair)
      ≡ sits_where w.station asked peer (walks_to w.station w.seats asked.mount asked.pair)
  hears_alike asked peer =
      ap (λ (sight : Sight). sits_where kept_station asked peer (landing sight w.seats asked.pair asked.mount)) (same_sight w rise)
      ∙ lands_alike asked peer (walks_to w.station w.seats asked.mount asked.pair)

  -- a listener draws
  hands_alike : (id room : ℕ) (seat : Seat) → seat_of w.seats id ≡ Some seat → (found : Option Session) → heard_at w.station seat.mount ≡ found
      → hands_out id seat room (option_map (kept_session queue) found) ≡ hands_out id seat room found
  hands_alike id room seat has None none = refl
  hands_alike id room seat has (Some session) hears =
      heard_cases w.station seat.mount session hears
      (λ live. ap (λ (bytes : List ℕ). says (Drawn bytes session.title) (Advance id (seat.place + length bytes)))
      (kept_data queue session.stream seat.place room (kept id seat session has live)))
      (λ none silent. subst (λ (x : Session). hands_out id seat room (Some (kept_session queue x)) ≡ hands_out id seat room (Some x)) silent refl)

  draws_alike : (id room : ℕ) (held : Option Seat) → seat_of w.seats id ≡ held → hands_out_at kept_station id room held ≡ hands_out_at w.station id room held
  draws_alike id room None none = refl
  draws_alike id room (Some seat) has =
      ap (hands_out id seat room) (heard_kept w rise seat.mount)
      ∙ hands_alike id room seat has (heard_at w.station seat.mount) refl

  -- a client gives a command
  needs_alike : (command : TheCommand) → needs_of (kept_of w) command ≡ needs_of w command
  needs_alike (MoveClients mount destination) =
      let facts : Bool → Bool → CommandNeeds = λ here there.
      Destination (record { mount_is_live = here; destination_is_live = there; is_same_mount = bytes_eq mount destination }) in
      ap (λ (here : Bool). facts here (is_some (session_of kept_station.live destination))) (has_session w rise mount)
      ∙ ap (facts (is_some (session_of w.station.live mount))) (has_session w rise destination)
  needs_alike (KillClient mount listener) = ap (λ (here : Bool). ClientNeeds here (is_listener_at w.seats mount listener)) (has_session w rise mount)
  needs_alike (KillSource mount) = ap (λ (here : Bool). MountNeeds here) (has_session w rise mount)
  needs_alike (SetTitle mount text) = ap (λ (here : Bool). MountNeeds here) (has_session w rise mount)
  needs_alike (SetFallback mount fallback) = ap (λ (here : Bool). MountNeeds here) (has_session w rise mount)
  needs_alike (AddUser mount user password) = refl
  needs_alike (DeleteUser mount user) = refl

  list_needs_alike : (listing : Listing) → needs_to_list (kept_of w) listing ≡ needs_to_list w listing
  list_needs_alike Status = refl
  list_needs_alike Stats = refl
  list_needs_alike Mounts = refl
  list_needs_alike (Clients mount) = ap (λ (here : Bool). MountNeeds here) (has_session w rise mount)
  list_needs_alike Streams = refl

  facts_alike : (asked : Asked) (pair : Option Credentials) → facts_asked (kept_of w) asked pair ≡ facts_asked w asked pair
  facts_alike NoCommand pair = refl
  facts_alike (MissingArgument by) pair = refl
  facts_alike (AsksFor listing) pair = ap (λ (needs : CommandNeeds). Some (record { access = access_to w.station.settings listing pair; needs = needs })) (list_needs_alike listing)
  facts_alike (Asks command) pair = ap (λ (needs : CommandNeeds). Some (facts_for w (opened_by command) needs pair)) (needs_alike command)

  counts_alike : (command : TheCommand) → counts_by (kept_of w) command ≡ counts_by w command
  counts_alike (MoveClients mount destination) =
      ap (λ (sight : Sight). (carried sight (To mount destination) w.seats).counts) (same_sight w rise)
  counts_alike (KillClient mount listener) = refl
  counts_alike (KillSource mount) = refl
  counts_alike (SetTitle mount text) = refl
  counts_alike (SetFallback mount fallback) = refl
  counts_alike (AddUser mount user password) = refl
  counts_alike (DeleteUser mount user) = refl

  does_alike : (id : ℕ) (asked : Asked) → does_asked (kept_of w) id asked ≡ does_asked w id asked
  does_alike id NoCommand = refl
  does_alike id (MissingArgument by) = refl
  does_alike id (AsksFor listing) = ap (λ (text : ReplyText). says (SaysText text) (Answer id)) (shown_kept w listing)
  does_alike id (Asks command) = ap (λ (counts : Carried). says (SaysText (said_of command counts)) (Obey id command)) (counts_alike command)

  commands_alike : (asked : CommandRequest) → command_outcome (kept_of w) asked ≡ command_outcome w asked
  commands_alike asked =
      ap (λ (facts : Option CommandFacts). if_undecided (standing_of w asked.id) (λ _.
      on_verdict (verdict_in (command_rows facts)) (Answer asked.id) (does_asked (kept_of w) asked.id asked.asked))) (facts_alike asked.asked asked.pair)
      ∙ ap (λ (o : Outcome). if_undecided (standing_of w asked.id) (λ _. on_verdict (verdict_in (rows_to_command w asked)) (Answer asked.id) o))
      (does_alike asked.id asked.asked)

  -- a client asks by a path
  paths_alike : (asked : ListenRequest) (path : Option WebPath) → asks_by (kept_of w) asked path ≡ asks_by w asked path
  paths_alike asked None =
      ap (λ (facts : Option ListenFacts). if_undecided (standing_of w asked.id) (λ peer.
      on_verdict (verdict_in (listen_rows facts)) (Answer asked.id)
      (sits_where kept_station asked peer (walks_to kept_station w.seats asked.mount asked.pair)))) (hear_facts asked)
      ∙ ap (if_undecided (standing_of w asked.id)) (fun_ext (λ peer.
      ap (on_verdict (verdict_in (listen_rows (listen_facts w.station w.seats asked))) (Answer asked.id)) (hears_alike asked peer)))
  paths_alike asked (Some path) =
      ap (λ (text : ReplyText). if_undecided (standing_of w asked.id) (λ _. says (SaysText text) (Answer asked.id))) (page_kept w path asked.visit)

  pub outcome_kept : (event : Event) → outcome (kept_of w) event ≡ outcome w event
  unfolding outcome
  outcome_kept (Arrive peer) = refl
  outcome_kept (Source asked) =
      ap (λ (facts : Option SourceFacts). if_undecided (standing_of w asked.id) (λ _.
      on_verdict (verdict_in (source_rows facts)) (Answer asked.id) (begins w.station asked))) (feed_facts asked)
  outcome_kept (Push id block) =
      ap (if_feeding (standing_of w id)) (fun_ext (λ mount.
      ap (λ (end : ℕ). on_verdict (verdict_in (push_rows (record { number_is_spent = nat_lt largest_number (end + length block) }))) Nothing
      (takes_in mount block)) (kept_ends queue w.station.live mount rise)))
  outcome_kept (SourceEnd id) = refl
  outcome_kept (Title id text) = refl
  outcome_kept (Listen asked) = paths_alike asked (web_path w.station.settings.web asked.mount)
  outcome_kept (Draw id room) =
      draws_so (kept_of w) id room ∙ ap (if_sitting (standing_of w id)) (draws_alike id room (seat_of w.seats id) refl) ∙ sym (draws_so w id room)
  outcome_kept (Command asked) = commands_alike asked
  outcome_kept (Leave id) = refl
  outcome_kept (RelayUp mount shown) =
      ap (λ (facts : Option RelayFacts). on_verdict (verdict_in (relay_rows facts)) Nothing (raises w.station mount shown)) (raise_facts mount shown)
  outcome_kept (RelayDown id) = refl
  outcome_kept (Clock ms) = refl
