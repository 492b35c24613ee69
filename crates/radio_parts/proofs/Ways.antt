-- each event ends in one of the ways
use Rattle.std.proofs.Common.{◌≡◌, true, false, ℕ, Bool, ◌==◌, not, ◌&&◌, Option, Some, None, is_some, List, [], ◌∷◌, length, refl, ap, sym, subst, ◌∙◌}
use Rattle.radio_parts.proofs.Words.{if◌then◌else◌, nat_lt, Rule, Verdict, Allow, row, source_rows, relay_rows, listen_rows, verdict_in, Peer, WebPath, ListenRequest, Event, Arrive, Source, Push, SourceEnd, Title}
use Rattle.radio_parts.proofs.Words.{Listen, Draw, Command, Leave, RelayUp, RelayDown, Clock, StationState, Change, Nothing, Answer, End, Tick, Outcome, Deny, Noted, Stray, Seat, Landing, Standing, Unknown, Undecided}
use Rattle.radio_parts.proofs.Words.{Feeds, Sits, Answered, Finished, World, standing_of, has_relay, largest_number, is_limit_reached, is_known, sight_of, arrive_facts, source_facts_at, relay_facts_at, rows_to_arrive}
use Rattle.radio_parts.proofs.Words.{rows_to_feed, rows_to_raise, names_mount, rows_to_push, rows_to_listen, walks_to, walk_stops, says, on_verdict, out_of_place, if_undecided, if_feeding, unless_relayed, if_sitting}
use Rattle.radio_parts.proofs.Words.{takes_seat, sits_where, shown, IsListing, IsAtPath, asks_by, page_at, hands_out, OfClient, OfRelay, leaves_from, goes_down_from, Asked, CommandRequest, does_asked, rows_to_command}
use Rattle.radio_parts.proofs.Words.{seat_of, Session, session_of, outcome, Way, Misplaced, IsFinished, IsDenied, IsRefused, IsAdmitted, Begins, ComesUp, Receives, SetsTitle, TakesSeat, HandsOut, Ends, EndsAndLeaves}
use Rattle.radio_parts.proofs.Words.{Leaves, GoesDown, Obeys, Shows, HasPassed, Ticks, rows_for, IsUndecided, client_in, heard_at}
use Rattle.radio_policy.specs.declared.rule.Rule.TheVariants.{AddressDenied, AddressNotAllowed, TooManyClients, NumbersSpent}
use Rattle.radio_policy.specs.declared.judgement.Verdict.TheVariants.{Deny as Denied}
use Rattle.radio_values.specs.MountName.{is_mount_name}
use Rattle.radio_settings_values.specs.Web.{web_path}
use Rattle.radio_access.specs.Lists.{passes}
use Rattle.radio_events.specs.declared.event.SourceRequest.{SourceRequest}
use Rattle.radio_values.specs.declared.field.Shown.{Shown}
use Rattle.radio_fallback.specs.declared.walking.WalkFinding.{WalkFinding}
use Rattle.radio_fallback.specs.declared.walking.Landing.TheVariants.{Lands, Stops}
use Rattle.radio_fallback.specs.Walk.{MaySit, found_at, stop_in}
use Rattle.radio_fallback.proofs.TurnLemmas.{lands_where_he_fits}
use Rattle.radio_parts.specs.Arrive.{admits_client}
use Rattle.radio_parts.specs.Source.{begins}
use Rattle.radio_parts.specs.Push.{takes_in}
use Rattle.radio_parts.proofs.DrawLemmas.{hands_out_at, draws_so}
use Rattle.radio_parts.specs.RelayUp.{raises}
use Rattle.radio_events.specs.declared.command.Asked.TheVariants.{NoCommand, MissingArgument, Listing as AsksFor, Command as Asks}
use Rattle.radio_parts.proofs.HeardLemmas.{heard_named}

module _ (w : World) (event : Event) where
  by_verdict : (denied : Change) (allowed : Outcome) (v : Verdict) → ((rule : Rule) → v ≡ Denied rule → Way w event (says (Deny rule) denied))
      → (v ≡ Allow → Way w event allowed) → Way w event (on_verdict v denied allowed)
  by_verdict denied allowed Allow denies allows = allows refl
  by_verdict denied allowed (Denied rule) denies allows = denies rule refl

  module _ (id : ℕ) (his : client_in event ≡ Some id) where
    when_out_of_place : (s : Standing) → standing_of w id ≡ s → Way w event (out_of_place s)
    when_out_of_place Unknown e = Misplaced event
    when_out_of_place (Undecided peer) e = Misplaced event
    when_out_of_place (Feeds mount) e = Misplaced event
    when_out_of_place Sits e = Misplaced event
    when_out_of_place Answered e = Misplaced event
    when_out_of_place (Finished rule) e = IsFinished event id rule his e

    by_undecided : (go : Peer → Outcome) → ((peer : Peer) → standing_of w id ≡ Undecided peer → Way w event (go peer)) → (s : Standing)
        → standing_of w id ≡ s → Way w event (if_undecided s go)
    by_undecided go goes (Undecided peer) e = goes peer e
    by_undecided go goes Unknown e = Misplaced event
    by_undecided go goes (Feeds mount) e = Misplaced event
    by_undecided go goes Sits e = Misplaced event
    by_undecided go goes Answered e = Misplaced event
    by_undecided go goes (Finished rule) e = IsFinished event id rule his e

    by_feeding : (go : List ℕ → Outcome) → ((mount : List ℕ) → standing_of w id ≡ Feeds mount → Way w event (go mount)) → (s : Standing)
        → standing_of w id ≡ s → Way w event (if_feeding s go)
    by_feeding go goes (Feeds mount) e = goes mount e
    by_feeding go goes Unknown e = Misplaced event
    by_feeding go goes (Undecided peer) e = Misplaced event
    by_feeding go goes Sits e = Misplaced event
    by_feeding go goes Answered e = Misplaced event
    by_feeding go goes (Finished rule) e = IsFinished event id rule his e

    by_sitting : (go : Outcome) → (standing_of w id ≡ Sits → Way w event go) → (s : Standing) → standing_of w id ≡ s → Way w event (if_sitting s go)
    by_sitting go goes Sits e = goes e
    by_sitting go goes Unknown e = Misplaced event
    by_sitting go goes (Undecided peer) e = Misplaced event
    by_sitting go goes (Feeds mount) e = Misplaced event
    by_sitting go goes Answered e = Misplaced event
    by_sitting go goes (Finished rule) e = IsFinished event id rule his e

none_there : (found : Option Session) → is_some found ≡ false → found ≡ None
none_there None e = refl
none_there (Some session) e = cc

-- a source that may begin sent the pair and its type is carried. There are fewer sources than allowed, and its mount has no session
pub record MayBegin (its full live refused : Bool) : Type 0 where
  pub sent : its ≡ true
  pub has_room : full ≡ false
  pub is_free : live ≡ false
  pub is_carried : refused ≡ false

free_by : (named its full live refused : Bool)
    → verdict_in (source_rows (if named then Some (record { is_source_pair = its; sources_are_full = full; mount_is_live = live; type_is_refused = refused })
    else None)) ≡ Allow → MayBegin its full live refused
free_by true true false false false v = record { sent = refl; has_room = refl; is_free = refl; is_carried = refl }
free_by true true false false true v = cc
free_by true true false true refused v = cc
free_by true true true live refused v = cc
free_by true false full live refused v = cc
free_by false its full live refused v = cc

abbrev pub MayFeed : StationState → SourceRequest → Type 0
MayFeed station asked =
    let facts = source_facts_at station asked.mount asked in
    MayBegin facts.is_source_pair facts.sources_are_full facts.mount_is_live facts.type_is_refused

pub may_feed : (station : StationState) (asked : SourceRequest) → verdict_in (rows_to_feed station asked) ≡ Allow → MayFeed station asked
may_feed station asked v =
    let facts = source_facts_at station asked.mount asked in
    free_by (names_mount station.settings asked.mount) facts.is_source_pair facts.sources_are_full facts.mount_is_live facts.type_is_refused v

pub may_begin : (w : World) (asked : SourceRequest) → verdict_in (rows_to_feed w.station asked) ≡ Allow → session_of w.station.live asked.mount ≡ None
may_begin w asked v = none_there (session_of w.station.live asked.mount) (may_feed w.station asked v).is_free

-- for a relay that may come up, there are fewer sources than allowed, and its mount has no session. Its type is carried, and a number is left for it
pub record MayRise (full live refused spent : Bool) : Type 0 where
  pub has_room : full ≡ false
  pub is_free : live ≡ false
  pub is_carried : refused ≡ false
  pub has_number : spent ≡ false

rises_by : (named full live refused spent : Bool)
    → verdict_in (relay_rows (if named then Some (record { sources_are_full = full; mount_is_live = live; type_is_refused = refused; number_is_spent = spent })
    else None)) ≡ Allow → MayRise full live refused spent
rises_by true false false false false v = record { has_room = refl; is_free = refl; is_carried = refl; has_number = refl }
rises_by true false false false true v = cc
rises_by true false false true spent v = cc
rises_by true false true refused spent v = cc
rises_by true true live refused spent v = cc
rises_by false full live refused spent v = cc

abbrev pub MayComeUp : StationState → List ℕ → Shown → Type 0
MayComeUp station mount shown =
    let facts = relay_facts_at station mount shown in
    MayRise facts.sources_are_full facts.mount_is_live facts.type_is_refused facts.number_is_spent

pub may_come_up : (station : StationState) (mount : List ℕ) (shown : Shown) → verdict_in (rows_to_raise station mount shown) ≡ Allow → MayComeUp station mount shown
may_come_up station mount shown v =
    let facts = relay_facts_at station mount shown in
    rises_by (names_mount station.settings mount) facts.sources_are_full facts.mount_is_live facts.type_is_refused facts.number_is_spent v

pub may_be_raised : (w : World) (mount : List ℕ) (shown : Shown) → verdict_in (rows_to_raise w.station mount shown) ≡ Allow
    → session_of w.station.live mount ≡ None
may_be_raised w mount shown v = none_there (session_of w.station.live mount) (may_come_up w.station mount shown v).is_free

-- a client that may arrive passes the address lists, and a number is left for it
passes_by : (denied allowed full spent : Bool)
    → verdict_in (row AddressDenied denied ∷ row AddressNotAllowed (not allowed) ∷ row TooManyClients full ∷ row NumbersSpent spent ∷ []) ≡ Allow
    → ((not denied && allowed) ≡ true) × (spent ≡ false) × (full ≡ false)
passes_by false true false false v = (refl, refl, refl)
passes_by false true false true v = cc
passes_by false true true spent v = cc
passes_by false false full spent v = cc
passes_by true allowed full spent v = cc

pub may_arrive : (w : World) (peer : Peer) → verdict_in (rows_to_arrive w.station peer) ≡ Allow → passes w.station.lists peer ≡ true
may_arrive w peer v =
    let facts = arrive_facts w.station peer in
    (passes_by facts.address_is_denied facts.address_is_allowed facts.clients_are_full facts.number_is_spent v).0

pub has_number_left : (station : StationState) (peer : Peer) → verdict_in (rows_to_arrive station peer) ≡ Allow → (station.last_id == largest_number) ≡ false
has_number_left station peer v =
    let facts = arrive_facts station peer in
    (passes_by facts.address_is_denied facts.address_is_allowed facts.clients_are_full facts.number_is_spent v).1

-- there are fewer clients than there may be
pub has_room_left : (station : StationState) (peer : Peer) → verdict_in (rows_to_arrive station peer) ≡ Allow
    → is_limit_reached (length station.clients) station.settings.limits.clients ≡ false
has_room_left station peer v =
    let facts = arrive_facts station peer in
    (passes_by facts.address_is_denied facts.address_is_allowed facts.clients_are_full facts.number_is_spent v).2

-- a client that may listen is accepted at the mount that it asked for and does not sit there already. No rule stops its walk from there
pub record IsWelcome (accepted twice : Bool) (stop : Option Rule) : Type 0 where
  pub accepts : accepted ≡ true
  pub once : twice ≡ false
  pub goes_on : stop ≡ None

hears_by : (named known accepted twice : Bool) (stop : Option Rule)
    → verdict_in (listen_rows (if named then Some (record { mount_is_known = known; users_accept = accepted; user_is_twice = twice; walk_stops = stop })
    else None)) ≡ Allow → IsWelcome accepted twice stop
hears_by true true true false None v = record { accepts = refl; once = refl; goes_on = refl }
hears_by true true true false (Some rule) v = cc
hears_by true true true true stop v = cc
hears_by true true false twice stop v = cc
hears_by true false accepted twice stop v = cc
hears_by false known accepted twice stop v = cc

-- and its path names a mount, and is none of the web site's
named_by : (named known accepted twice : Bool) (stop : Option Rule)
    → verdict_in (listen_rows (if named then Some (record { mount_is_known = known; users_accept = accepted; user_is_twice = twice; walk_stops = stop })
    else None)) ≡ Allow → named ≡ true
named_by true known accepted twice stop v = refl
named_by false known accepted twice stop v = cc

none_by : (named : Bool) (path : Option WebPath) → (named && not (is_some path)) ≡ true → path ≡ None
none_by named None e = refl
none_by true (Some path) e = cc
none_by false (Some path) e = cc

pub no_path : (w : World) (asked : ListenRequest) → verdict_in (rows_to_listen w asked) ≡ Allow → web_path w.station.settings.web asked.mount ≡ None
no_path w asked v =
    let found = found_at (sight_of w.station) w.seats asked.mount asked.pair in
    none_by (is_mount_name asked.mount) (web_path w.station.settings.web asked.mount)
    (named_by (names_mount w.station.settings asked.mount) (is_known w.station asked.mount) found.users_accept found.user_is_twice
    (walk_stops w.station w.seats asked.mount asked.pair) v)

-- what one who asks finds at the mount of its path
abbrev pub found_by : World → ListenRequest → WalkFinding
found_by w asked = found_at (sight_of w.station) w.seats asked.mount asked.pair

pub may_listen : (w : World) (asked : ListenRequest) → verdict_in (rows_to_listen w asked) ≡ Allow
    → IsWelcome (found_by w asked).users_accept (found_by w asked).user_is_twice (walk_stops w.station w.seats asked.mount asked.pair)
may_listen w asked v =
    hears_by (names_mount w.station.settings asked.mount) (is_known w.station asked.mount) (found_by w asked).users_accept (found_by w asked).user_is_twice
    (walk_stops w.station w.seats asked.mount asked.pair) v

-- so its walk lands where it may sit
lands_by : (l : Landing) → stop_in l ≡ None → (to : List ℕ) × (l ≡ Lands to)
lands_by (Lands to) e = (to, refl)
lands_by (Stops rule) e = cc

pub record LandsAt (w : World) (asked : ListenRequest) : Type 0 where
  pub to : List ℕ
  pub lands : walks_to w.station w.seats asked.mount asked.pair ≡ Lands to
  pub fits : MaySit (sight_of w.station) w.seats asked.pair to

pub lands_at : (w : World) (asked : ListenRequest) → verdict_in (rows_to_listen w asked) ≡ Allow → LandsAt w asked
lands_at w asked v =
    let where_to = lands_by (walks_to w.station w.seats asked.mount asked.pair) (may_listen w asked v).goes_on in
    record { to = where_to.0; lands = where_to.1; fits = lands_where_he_fits (sight_of w.station) w.seats asked.pair asked.mount where_to.0 where_to.1 }

module _ (w : World) (asked : ListenRequest) (peer : Peer) (e : standing_of w asked.id ≡ Undecided peer) (v : verdict_in (rows_to_listen w asked) ≡ Allow) where
  sits_at : (to : List ℕ) → walks_to w.station w.seats asked.mount asked.pair ≡ Lands to → (found : Option Session) → heard_at w.station to ≡ found
      → Way w (Listen asked) (takes_seat w.station asked peer found)
  sits_at to lands None none = Misplaced (Listen asked)
  sits_at to lands (Some session) found =
      let named : session.mount ≡ to = heard_named w.station to session found in
      TakesSeat asked peer session e (lands ∙ ap (λ (m : List ℕ). Lands m) (sym named)) (ap (heard_at w.station) named ∙ found) v

  sits : (l : Landing) → walks_to w.station w.seats asked.mount asked.pair ≡ l → Way w (Listen asked) (sits_where w.station asked peer l)
  sits (Stops rule) stops = Misplaced (Listen asked)
  sits (Lands to) lands = sits_at to lands (heard_at w.station to) refl

module _ (w : World) (id room : ℕ) (is_sitting : standing_of w id ≡ Sits) where
  hands : (seat : Seat) → seat_of w.seats id ≡ Some seat → (found : Option Session) → heard_at w.station seat.mount ≡ found
      → Way w (Draw id room) (hands_out id seat room found)
  hands seat has None none = Misplaced (Draw id room)
  hands seat has (Some session) found = HandsOut id room seat session is_sitting has found

  hands_at : (has : Option Seat) → seat_of w.seats id ≡ has → Way w (Draw id room) (hands_out_at w.station id room has)
  hands_at None none = Misplaced (Draw id room)
  hands_at (Some seat) has = hands seat has (heard_at w.station seat.mount) refl

module _ (w : World) (id : ℕ) where
  by_leaving_from : has_relay w id ≡ false → (s : Standing) → standing_of w id ≡ s → Way w (Leave id) (leaves_from id s)
  by_leaving_from no_relay Unknown e = Misplaced (Leave id)
  by_leaving_from no_relay (Feeds mount) e = EndsAndLeaves (Leave id) id mount (OfClient no_relay) e
  by_leaving_from no_relay (Undecided peer) e = Leaves id no_relay (λ mount f. cc)
  by_leaving_from no_relay Sits e = Leaves id no_relay (λ mount f. cc)
  by_leaving_from no_relay Answered e = Leaves id no_relay (λ mount f. cc)
  by_leaving_from no_relay (Finished rule) e = Leaves id no_relay (λ mount f. cc)

  by_going_down_from : has_relay w id ≡ true → (s : Standing) → standing_of w id ≡ s → Way w (RelayDown id) (goes_down_from id s)
  by_going_down_from relay Unknown e = Misplaced (RelayDown id)
  by_going_down_from relay (Feeds mount) e = EndsAndLeaves (RelayDown id) id mount (OfRelay relay) e
  by_going_down_from relay (Undecided peer) e = Misplaced (RelayDown id)
  by_going_down_from relay Sits e = Misplaced (RelayDown id)
  by_going_down_from relay Answered e = Misplaced (RelayDown id)
  by_going_down_from relay (Finished rule) e = GoesDown id rule relay e

  by_leaving : (b : Bool) → has_relay w id ≡ b → Way w (Leave id) (unless_relayed b (leaves_from id (standing_of w id)))
  by_leaving true e = Misplaced (Leave id)
  by_leaving false e = by_leaving_from e (standing_of w id) refl

  by_going_down : (b : Bool) → has_relay w id ≡ b → Way w (RelayDown id) (if b then goes_down_from id (standing_of w id) else says Stray Nothing)
  by_going_down true e = by_going_down_from e (standing_of w id) refl
  by_going_down false e = Misplaced (RelayDown id)

  by_ending : (mount : List ℕ) → standing_of w id ≡ Feeds mount → (b : Bool) → has_relay w id ≡ b
      → Way w (SourceEnd id) (unless_relayed b (says Noted (End id mount)))
  by_ending mount feeds true e = Misplaced (SourceEnd id)
  by_ending mount feeds false e = Ends id mount feeds e

by_clock : (w : World) (ms : ℕ) (b : Bool) → nat_lt ms w.station.time ≡ b → Way w (Clock ms) (says Noted (if b then Nothing else Tick ms))
by_clock w ms true e = HasPassed ms e
by_clock w ms false e = Ticks ms e

-- what was asked is done, where the policy allows it
module _ (w : World) (asked : CommandRequest) (peer : Peer) (e : standing_of w asked.id ≡ Undecided peer) (v : verdict_in (rows_to_command w asked) ≡ Allow) where
  does : (what : Asked) → asked.asked ≡ what → Way w (Command asked) (does_asked w asked.id what)
  does NoCommand is = Misplaced (Command asked)
  does (MissingArgument by) is = Misplaced (Command asked)
  does (AsksFor listing) is =
      Shows (Command asked) asked.id peer (shown w listing) refl e
      (IsListing listing (record { asked = asked; is_event = refl; is_asked = is; peer = peer; undecided = e; allowed = v }))
  does (Asks command) is =
      Obeys (Command asked) command (record { asked = asked; is_event = refl; is_asked = is; peer = peer; undecided = e; allowed = v })

-- a client asks by a path
by_path : (w : World) (asked : ListenRequest) (path : Option WebPath) → web_path w.station.settings.web asked.mount ≡ path
    → Way w (Listen asked) (asks_by w asked path)
by_path w asked None no_path =
    by_undecided w (Listen asked) asked.id refl _
    (λ peer e. by_verdict w (Listen asked) (Answer asked.id) (sits_where w.station asked peer (walks_to w.station w.seats asked.mount asked.pair))
    (verdict_in (rows_for w (Listen asked)))
    (λ rule v. IsRefused (Listen asked) asked.id rule v refl (peer, e))
    (λ v. sits w asked peer e v (walks_to w.station w.seats asked.mount asked.pair) refl))
    (standing_of w asked.id) refl
by_path w asked (Some path) is_path =
    by_undecided w (Listen asked) asked.id refl _
    (λ peer e. Shows (Listen asked) asked.id peer (page_at w path asked.visit) refl e (IsAtPath asked path refl is_path))
    (standing_of w asked.id) refl

pub way_of : (w : World) (event : Event) → Way w event (outcome w event)
unfolding outcome
way_of w (Arrive peer) =
    by_verdict w (Arrive peer) Nothing (admits_client w peer) (verdict_in (rows_for w (Arrive peer)))
    (λ rule v. IsDenied (Arrive peer) rule v (λ id e u. cc)) (λ v. IsAdmitted peer v)
way_of w (Source asked) =
    by_undecided w (Source asked) asked.id refl _
    (λ peer e. by_verdict w (Source asked) (Answer asked.id) (begins w.station asked) (verdict_in (rows_for w (Source asked)))
    (λ rule v. IsRefused (Source asked) asked.id rule v refl (peer, e))
    (λ v. Begins asked (peer, e) (may_begin w asked v) v))
    (standing_of w asked.id) refl
way_of w (Push id block) =
    by_feeding w (Push id block) id refl _
    (λ mount e. by_verdict w (Push id block) Nothing (takes_in mount block) (verdict_in (rows_to_push w.station mount block))
    (λ rule v. IsDenied (Push id block) rule (rw e v) (λ him h u. feeds_and_asks mount e him h u))
    (λ v. Receives id mount block e))
    (standing_of w id) refl where
      feeds_and_asks : (mount : List ℕ) → standing_of w id ≡ Feeds mount → (him : ℕ) → Some id ≡ Some him → IsUndecided w him → ⊥
      feeds_and_asks mount e him h u = let same : id ≡ him = cc in let also : standing_of w id ≡ Undecided u.0 = ap (standing_of w) same ∙ u.1 in cc
way_of w (SourceEnd id) = by_feeding w (SourceEnd id) id refl _ (λ mount e. by_ending w id mount e (has_relay w id) refl) (standing_of w id) refl
way_of w (Title id text) = by_feeding w (Title id text) id refl _ (λ mount e. SetsTitle id mount text e) (standing_of w id) refl
way_of w (Listen asked) = by_path w asked (web_path w.station.settings.web asked.mount) refl
way_of w (Draw id room) = subst (λ (o : Outcome). Way w (Draw id room) o) (sym (draws_so w id room))
    (by_sitting w (Draw id room) id refl (hands_out_at w.station id room (seat_of w.seats id)) (λ e. hands_at w id room e (seat_of w.seats id) refl)
    (standing_of w id) refl)
way_of w (Command asked) =
    by_undecided w (Command asked) asked.id refl _
    (λ peer e. by_verdict w (Command asked) (Answer asked.id) (does_asked w asked.id asked.asked) (verdict_in (rows_for w (Command asked)))
    (λ rule v. IsRefused (Command asked) asked.id rule v refl (peer, e))
    (λ v. does w asked peer e v asked.asked refl))
    (standing_of w asked.id) refl
way_of w (Leave id) = by_leaving w id (has_relay w id) refl
way_of w (RelayUp mount shown) =
    by_verdict w (RelayUp mount shown) Nothing (raises w.station mount shown) (verdict_in (rows_to_raise w.station mount shown))
    (λ rule v. IsDenied (RelayUp mount shown) rule v (λ id e u. cc)) (λ v. ComesUp mount shown (may_be_raised w mount shown v) v)
way_of w (RelayDown id) = by_going_down w id (has_relay w id) refl
way_of w (Clock ms) = by_clock w ms (nat_lt ms w.station.time) refl
