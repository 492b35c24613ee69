-- what an event does to one seat, and hands to its listener
use Rattle.std.proofs.Common.{◌≡◌, ◌⊎◌, inl, inr, true, false, Bool, ℕ, ◌+◌, ◌≤◌, ◌==◌, Option, Some, None, List, [], length, refl, ap, sym, subst, ◌∙◌, arith}
use Rattle.radio_core.proofs.Words.{if◌then◌else◌, bytes_eq, nat_tests, Rule, Allow, verdict_in, Peer, by_number, Event, Push, SourceEnd, Listen, Draw, Leave, Clock, ListenRequest, TakeSeat, Advance, End, EndAndLeave}
use Rattle.radio_core.proofs.Words.{Forget, Obey, Outcome, Seat, Undecided, Feeds, Sits, Unknown, World, standing_of, world, changed, called_home, block_received, ticked, begun, raised, data_in, of_client, handed_at}
use Rattle.radio_core.proofs.Words.{sight_of, rows_to_listen, walks_to, Cause, Finishes, Brings, TakesTo, ByComingUp, ByRelayUp, moved_into, shown_for, StationState, Lists, lets_in, Command, IsCommanded, client_in, Up}
use Rattle.radio_core.proofs.Words.{at_his_turn, comes_home, Settings, options_for, Lands, bytes_eq-Decides, first_seat, ComesUpOn, ASource, ARelay, IsSent, HisSessionIsOver, HeIsCalledHome, SeatStep, IsHanded, SitsDown}
use Rattle.radio_core.proofs.Words.{SeatsStep, IsGiven, seat_of, seat_in, with_session_at, Session, session_of, opened, with_session, IsSound, outcome, reply_to, world_after, data_at, end_of, Way, Misplaced, IsFinished}
use Rattle.radio_core.proofs.Words.{IsDenied, IsRefused, IsAdmitted, Begins, ComesUp, Receives, SetsTitle, TakesSeat, HandsOut, Ends, EndsAndLeaves, Leaves, GoesDown, Obeys, Shows, HasPassed, Ticks, is_no_listener}
use Rattle.radio_core.proofs.Words.{beside_left, station_called, way_of, option_map, heard_at, is_new_session, heard_cases, heard_live, seat_hearing, seat_of_hearing, Shown}
use Rattle.radio_core.specs.SeatSteps.{Stays, IsMoved as HeIsMoved, Leaves as HeLeaves, IsEnded as HeIsEnded}
use Rattle.radio_core.proofs.Clients.Obeyed.{IsObeyed, LeavesFor, Takes as TakesByIt, obeyed}
use Rattle.radio_core.proofs.Clients.OwnLemmas.{not_of, nothing_of}
use Rattle.radio_core.proofs.Seats.LostSeats.{loses_no_seat_else}
use Rattle.radio_core.proofs.Sound.Soundness.{has_new_seat, had_no_seat, beside_new_seat}
use Rattle.radio_core.proofs.Sound.SoundSessions.{has_advanced, others_seats, behind_within}
use Rattle.radio_core.proofs.Clients.CalledHome.{IsCalled, Rests as CalledRests, Comes as CalledComes, is_called, sound_just_begun, sound_just_raised}
use Rattle.radio_core.proofs.Sound.SoundEnds.{ended_fates, ended_and_left_fates}
use Rattle.radio_core.proofs.Clients.Fates.{Fate, GoesOn, IsEnded, HasStopped, IsMoved, Fates, HasEnded, Nobody}
use Rattle.radio_core.proofs.Sessions.TickLemmas.{ticked_fates}
use Rattle.radio_core.proofs.Sound.SoundRuns.{grown_world, NoMove, lag_fates}
use Rattle.radio_core.proofs.Seats.HeardApart.{apart_sessions, apart_then}
use Rattle.radio_core.proofs.Seats.GivenSeats.{sat_elsewhere}

-- an event does one of these to a seat: nothing, draw the data at its place, give one to a client that had none, move it, take it away
data Turn (w later : World) (event : Event) (id : ℕ) : Option Seat → List ℕ → Option Seat → Type 0 where
  Rests : (seat : Option Seat) → Turn w later event id seat [] seat
  Draws : (seat : Seat) (session : Session) (room : ℕ) → event ≡ Draw id room → heard_at w.station seat.mount ≡ Some session
      → session.number ≡ seat.session → seat.place + length (data_at session.stream seat.place room) ≤ end_of session.stream
      → Turn w later event id (Some seat) (data_at session.stream seat.place room)
      (Some (record seat { place = seat.place + length (data_at session.stream seat.place room) }))
  Comes : (asked : ListenRequest) (peer : Peer) (session : Session) → event ≡ Listen asked → asked.id ≡ id → standing_of w id ≡ Undecided peer
      → walks_to w.station w.seats asked.mount asked.pair ≡ Lands session.mount → heard_at w.station session.mount ≡ Some session
      → verdict_in (rows_to_listen w asked) ≡ Allow → Turn w later event id None [] (Some (first_seat w.station asked peer session))
  Moves : (seat : Seat) (session : Session) → TakesTo w event id session.mount → IsSent w later event seat session.mount → heard_at later.station session.mount ≡ Some session
      → lets_in later.station.lists session.mount seat.pair ≡ true → (seat.session == session.number) ≡ false
      → Turn w later event id (Some seat) [] (Some (moved_into session seat))
  Hears : (seat : Seat) (session : Session) → ComesUpOn event seat.mount → session_of w.station.live seat.mount ≡ None
      → session_of later.station.live seat.mount ≡ Some session → session.stream.bytes ≡ [] → seat.session ≡ 0 → seat.place ≡ 0
      → (0 == session.number) ≡ false → Turn w later event id (Some seat) [] (Some (record seat { session = session.number }))
  Goes : (before : Option Seat) → Turn w later event id before [] None

adapted : (w now : World) (event : Event) (id : ℕ) {a before : Option Seat} {x bytes : List ℕ} {b later : Option Seat} → a ≡ before → x ≡ bytes → b ≡ later
    → Turn w now event id a x b → Turn w now event id before bytes later
adapted w now event id {a} {before} {x} {bytes} {b} {later} ea ex eb step =
    subst (λ (o : Option Seat). Turn w now event id o bytes later) ea (subst (λ (xs : List ℕ). Turn w now event id a xs later) ex
    (subst (λ (o : Option Seat). Turn w now event id a x o) eb step))

zero_apart : (n : ℕ) → (n == 0) ≡ false → (0 == n) ≡ false
zero_apart n e = grind (arith, nat_tests, e)

module _ (w : World) (s : IsSound w) (id : ℕ) where
  abbrev mine : Option Seat
  mine = seat_of w.seats id

  module _ (now : World) (event : Event) where
    -- nothing is handed out, and its seat is as it was, or gone
    stays : (bytes : List ℕ) (later : Option Seat) → bytes ≡ [] → later ≡ mine → Turn w now event id mine bytes later
    stays bytes later none same = adapted w now event id refl (sym none) (sym same) (Rests mine)

    loses : (bytes : List ℕ) (later : Option Seat) → bytes ≡ [] → later ≡ None → Turn w now event id mine bytes later
    loses bytes later none forgotten = adapted w now event id refl (sym none) (sym forgotten) (Goes mine)

    -- it is carried along
    moves : (bytes : List ℕ) (old : Seat) (session : Session) → bytes ≡ [] → TakesTo w event id session.mount
        → IsSent w now event old session.mount → mine ≡ Some old
        → seat_of now.seats id ≡ Some (moved_into session old) → heard_at now.station session.mount ≡ Some session
        → lets_in now.station.lists session.mount old.pair ≡ true → (old.session == session.number) ≡ false
        → Turn w now event id mine bytes (seat_of now.seats id)
    moves bytes old session none takes sent had has live opens apart =
        adapted w now event id (sym had) (sym none) (sym has) (Moves old session takes sent live opens apart)

    -- it goes on, or is ended, or carried along from a mount whose session is over
    fares : (S : ℕ → Type 0)
        → Fates (Cause w now event) (λ him session. TakesTo w event him session.mount) S HasEnded w now
        → (bytes : List ℕ) → bytes ≡ [] → Turn w now event id mine bytes (seat_of now.seats id)
    fares S f bytes none = by_fate (f.fate id) where
      by_fate : Fate (Cause w now event) (λ him session. TakesTo w event him session.mount) S HasEnded w now id
          → Turn w now event id mine bytes (seat_of now.seats id)
      by_fate (GoesOn same seats feeds sits) = stays bytes (seat_of now.seats id) none seats
      by_fate (IsEnded rule cause active ended gone over) = loses bytes (seat_of now.seats id) none gone
      by_fate (HasStopped mount why feeding done gone over) = loses bytes (seat_of now.seats id) none gone
      by_fate (IsMoved old session takes left had has same live opens) =
          moves bytes old session none takes (HisSessionIsOver left.0 left.1) had has live (ap (λ (x : Lists). lets_in x session.mount old.pair) f.lists ∙ opens)
          (apart_then w now s f.live id old session had left live)

  -- it sits down
  takes_seat_at : (asked : ListenRequest) (peer : Peer) (session : Session) → standing_of w asked.id ≡ Undecided peer
      → walks_to w.station w.seats asked.mount asked.pair ≡ Lands session.mount → heard_at w.station session.mount ≡ Some session
      → verdict_in (rows_to_listen w asked) ≡ Allow → (bytes : List ℕ) → bytes ≡ []
      → Turn w (changed w (TakeSeat asked.id (first_seat w.station asked peer session))) (Listen asked) id mine bytes
      (seat_of (changed w (TakeSeat asked.id (first_seat w.station asked peer session))).seats id)
  takes_seat_at asked peer session undecided lands live allowed bytes none =
      let seat = first_seat w.station asked peer session in
      let now = changed w (TakeSeat asked.id seat) in
      by_number asked.id id
      (λ same.
      let here : seat_of (changed w (TakeSeat asked.id seat)).seats id ≡ Some seat =
      ap (seat_of (changed w (TakeSeat asked.id seat)).seats) (sym same) ∙ has_new_seat w s asked peer session undecided live in
      let before : mine ≡ None = ap (seat_of w.seats) (sym same) ∙ had_no_seat w s asked peer session undecided live in
      adapted w now (Listen asked) id (sym before) (sym none) (sym here)
      (Comes asked peer session refl same (ap (standing_of w) (sym same) ∙ undecided) lands live allowed))
      (λ other. stays now (Listen asked) bytes (seat_of (changed w (TakeSeat asked.id seat)).seats id) none
      (beside_new_seat w s asked peer session undecided live id other))

  -- it draws the data at its place
  hands_at : (him room : ℕ) (seat : Seat) (session : Session) → standing_of w him ≡ Sits → seat_of w.seats him ≡ Some seat
      → heard_at w.station seat.mount ≡ Some session
      → Turn w (changed w (Advance him (seat.place + length (data_at session.stream seat.place room)))) (Draw him room) id mine
      (of_client (Draw him room) id (data_at session.stream seat.place room))
      (seat_of (changed w (Advance him (seat.place + length (data_at session.stream seat.place room)))).seats id)
  hands_at him room seat session sits has live =
      let later = changed w (Advance him (seat.place + length (data_at session.stream seat.place room))) in
      let bytes = data_at session.stream seat.place room in
      by_number him id
      (λ same.
      let itself : (him == id) ≡ true = grind (arith, nat_tests) in
      let old = s.seated him seat has in
      let both : Some old.session ≡ Some session = sym old.is_heard ∙ live in
      let one : old.session ≡ session = cc in
      adapted w later (Draw him room) id (sym has ∙ ap (seat_of w.seats) same) (sym (his_bytes (him == id) bytes itself))
      (sym (has_advanced w s him room seat session sits has live) ∙ ap (seat_of later.seats) same)
      (Draws seat session room (ap (λ (n : ℕ). Draw n room) same) live (ap (λ (x : Session). x.number) (sym one) ∙ old.his_session) (behind_within w s him room seat session sits has live)))
      (λ other. stays later (Draw him room) (of_client (Draw him room) id bytes) (seat_of later.seats id) (not_of (Draw him room) id bytes other)
      (others_seats w s him room seat session sits has live id other)) where
        his_bytes : (b : Bool) (bytes : List ℕ) → b ≡ true → (if b then bytes else []) ≡ bytes
        his_bytes true bytes e = refl
        his_bytes false bytes e = cc

  -- a block comes: it goes on, or is too far behind
  lags : (him : ℕ) (mount block : List ℕ) → standing_of w him ≡ Feeds mount → (bytes : List ℕ) → bytes ≡ []
      → Turn w (block_received w mount block) (Push him block) id mine bytes (seat_of (block_received w mount block).seats id)
  lags him mount block feeding bytes none = by_fate ((lag_fates w s mount block him feeding).fate id) where
    by_fate : Fate (Cause w (block_received w mount block) (Push him block)) NoMove Nobody HasEnded (grown_world w mount block) (block_received w mount block) id
        → Turn w (block_received w mount block) (Push him block) id mine bytes (seat_of (block_received w mount block).seats id)
    by_fate (GoesOn same seats feeds sits) = stays (block_received w mount block) (Push him block) bytes (seat_of (block_received w mount block).seats id) none seats
    by_fate (IsEnded rule cause active ended gone over) =
        loses (block_received w mount block) (Push him block) bytes (seat_of (block_received w mount block).seats id) none gone
    by_fate (HasStopped other why feeds done gone over) = absurd why
    by_fate (IsMoved old session carries left had has same live opens) = absurd carries

  -- a source, or a relay, comes up: a listener that waited for it draws it, keeps its place, or is called home
  module _ (event : Event) (him : ℕ) (mount : List ℕ) (shown : Shown) (station : StationState) (settings : station.settings ≡ w.station.settings)
      (begins : station.live ≡ with_session w.station.live (opened mount him shown w.station.time)) (not_live : session_of w.station.live mount ≡ None)
      (past : (him == 0) ≡ false)
      (sound_then : IsSound (world station (with_session_at w.seats mount him))) (coming : ComesUpOn event mount)
      (brings : (options_for w.station.settings mount).listeners.fallback_override ≡ true
      → Brings w event (Up mount) (world station (with_session_at w.seats mount him)))
      (bytes : List ℕ) (none : bytes ≡ []) where
    abbrev up : World
    up = world station (with_session_at w.seats mount him)

    abbrev come_up : World
    come_up = called_home (world station (with_session_at w.seats mount him)) mount

    abbrev fresh : Session
    fresh = opened mount him shown w.station.time

    -- it is there
    there : (at : List ℕ) → mount ≡ at → session_of station.live at ≡ Some fresh
    there at same =
        ap (λ (sessions : List Session). session_of sessions at) begins
        ∙ is_new_session w.station.live fresh at ((bytes_eq-Decides mount at).1 same)

    there_then : (at : List ℕ) → mount ≡ at → session_of come_up.station.live at ≡ Some fresh
    there_then at same = ap (λ (h : StationState). session_of h.live at) (station_called up mount) ∙ there at same

    abbrev Takes : ℕ → Session → Type 0
    Takes who session = TakesTo w event who session.mount × (session.mount ≡ mount)
        × ((options_for w.station.settings mount).listeners.fallback_override ≡ true)

    -- a listener that sat there had drawn nothing
    waited : (old : Seat) → seat_of w.seats id ≡ Some old → old.mount ≡ mount → (old.session ≡ 0) × (old.place ≡ 0)
    waited old had same =
        let before = s.seated id old had in
        heard_cases w.station old.mount before.session before.is_heard
        (λ live. let gone : session_of w.station.live old.mount ≡ None = ap (session_of w.station.live) same ∙ not_live in cc)
        (λ gone silent.
        let low : old.place ≤ 0 = subst (λ (x : Session). old.place ≤ end_of x.stream) (sym silent) before.within in (
          sym before.his_session ∙ sym (ap (λ (x : Session). x.number) silent),
          omega (arith, low),
        ))

    rests_at : (old : Seat) → seat_of w.seats id ≡ Some old → (at : Bool) → bytes_eq old.mount mount ≡ at
        → seat_of come_up.seats id ≡ Some (record old { session = (if at then him else old.session) })
        → Turn w come_up event id mine bytes (seat_of come_up.seats id)
    rests_at old had true at now =
        let same : old.mount ≡ mount = (bytes_eq-Decides old.mount mount).0 at in
        let nothing = waited old had same in
        adapted w come_up event id (sym had) (sym none) (sym now)
        (Hears old fresh (subst (λ (m : List ℕ). ComesUpOn event m) (sym same) coming) (ap (session_of w.station.live) same ∙ not_live)
        (there_then old.mount (sym same)) refl nothing.0 nothing.1 (zero_apart him past))
    rests_at old had false away now = adapted w come_up event id (sym had) (sym none) (sym now) (Rests (Some old))

    rests_by : (found : Option Seat) → seat_of w.seats id ≡ found → seat_of come_up.seats id ≡ option_map (seat_hearing mount him) found
        → Turn w come_up event id mine bytes (seat_of come_up.seats id)
    rests_by None had now = adapted w come_up event id (sym had) (sym none) (sym now) (Rests None)
    rests_by (Some old) had now = rests_at old had (bytes_eq old.mount mount) refl now

    by_call : IsCalled Takes up come_up id → Turn w come_up event id mine bytes (seat_of come_up.seats id)
    by_call (CalledRests same seat) = rests_by (seat_of w.seats id) refl (seat ∙ seat_of_hearing mount him w.seats id)
    by_call (CalledComes old session takes left had has same live opens) =
        let here : session_of station.live session.mount ≡ Some fresh = there session.mount (sym takes.1) in
        let both : Some session ≡ Some fresh
        = sym live ∙ heard_live come_up.station session.mount fresh (there_then session.mount (sym takes.1)) in
        let one : session ≡ fresh = cc in
        moves come_up event bytes old session none takes.0
        (HeIsCalledHome (subst (λ (m : List ℕ). ComesUpOn event m) (sym takes.1) coming) left.1
        (ap (λ (m : List ℕ). (options_for w.station.settings m).listeners.fallback_override) takes.1 ∙ takes.2))
        (sat_elsewhere mount him w.seats id old had (ap (bytes_eq old.mount) (sym takes.1) ∙ left.0)) has live
        (ap (λ (h : StationState). lets_in h.lists session.mount old.pair) (station_called up mount) ∙ opens)
        (apart_sessions up sound_then id old session had (here ∙ ap (λ (x : Session). Some x) (sym one)) left.0)

    comes_up : Turn w come_up event id mine bytes (seat_of come_up.seats id)
    comes_up =
        by_call (is_called up sound_then mount Takes
        (λ calls who session turn.
        let here : (options_for w.station.settings mount).listeners.fallback_override ≡ true
        = ap (λ (set : Settings). (options_for set mount).listeners.fallback_override) (sym settings) ∙ calls in (
          (Up mount, up, brings here, turn),
          sym (comes_home (sight_of station) mount (at_his_turn (sight_of station) (Up mount) up.seats who) who session.mount turn),
          here,
        )) id)

  -- nobody has the number 0
  asks_past_zero : (him : ℕ) (peer : Peer) → standing_of w him ≡ Undecided peer → (him == 0) ≡ false
  asks_past_zero him peer e =
      by_number him 0 (λ same. let unknown : standing_of w him ≡ Unknown = ap (standing_of w) same ∙ s.from_one in cc) (λ apart. apart)

  -- a command is done: it rests, or is finished, or is carried along
  obeys : (event : Event) (command : Command) (c : IsCommanded w event command) (bytes : List ℕ) → bytes ≡ []
      → Turn w (changed w (Obey c.asked.id command)) event id mine bytes (seat_of (changed w (Obey c.asked.id command)).seats id)
  obeys event command c bytes none = by_fate (did.fates.fate id) where
    did : IsObeyed w event c.asked.id (changed w (Obey c.asked.id command))
    did = obeyed w s event command c

    later : World
    later = changed w (Obey c.asked.id command)

    by_fate : Fate (Cause w (changed w (Obey c.asked.id command)) event) (TakesByIt w event) Nobody (LeavesFor w event) did.base
        (changed w (Obey c.asked.id command)) id
        → Turn w (changed w (Obey c.asked.id command)) event id mine bytes (seat_of (changed w (Obey c.asked.id command)).seats id)
    by_fate (GoesOn same seats feeds sits) = stays later event bytes (seat_of later.seats id) none (seats ∙ did.seats id)
    by_fate (IsEnded rule cause active ended gone over) = loses later event bytes (seat_of later.seats id) none gone
    by_fate (HasStopped mount why feeding done gone over) = absurd why
    by_fate (IsMoved old session takes left had has same live opens) =
        moves later event bytes old session none takes left.0 (sym (did.seats id) ∙ had) has live
        (ap (λ (x : Lists). lets_in x session.mount old.pair) did.fates.lists ∙ opens)
        left.1

  -- a client leaves, or a relay goes down
  goes : (event : Event) (him : ℕ)
      → Turn w (changed w (Forget him)) event id mine (of_client event id []) (seat_of (changed w (Forget him)).seats id)
  goes event him =
      let now = changed w (Forget him) in
      by_number him id
      (λ same. loses now event (of_client event id []) (seat_of now.seats id) (nothing_of event id [] refl)
      (ap (seat_of now.seats) (sym same) ∙ ap seat_in (is_no_listener w.seats him)))
      (λ apart. stays now event (of_client event id []) (seat_of now.seats id) (nothing_of event id [] refl) (ap seat_in (beside_left w.seats him id apart)))

  step_by : (event : Event) (o : Outcome) → Way w event o
      → Turn w (changed w o.change) event id mine (of_client event id (data_in o.reply)) (seat_of (changed w o.change).seats id)
  step_by event o (Misplaced _) = stays w event (of_client event id []) mine (nothing_of event id [] refl) refl
  step_by event o (IsFinished _ him by its known) = stays w event (of_client event id []) mine (nothing_of event id [] refl) refl
  step_by event o (IsDenied _ by v nobody) = stays w event (of_client event id []) mine (nothing_of event id [] refl) refl
  step_by event o (IsRefused _ him by v its undecided) =
      stays (changed w o.change) event (of_client event id []) mine (nothing_of event id [] refl) refl
  step_by event o (IsAdmitted peer allowed) = stays (changed w o.change) event [] mine refl refl
  step_by event o (Begins asked undecided none allowed) =
      comes_up event asked.id asked.mount (shown_for w.station asked.mount asked.shown)
      (begun w.station asked.id asked.mount (shown_for w.station asked.mount asked.shown)) refl refl none (asks_past_zero asked.id undecided.0 undecided.1)
      (sound_just_begun w s asked.id asked.mount (shown_for w.station asked.mount asked.shown) undecided.0 undecided.1 none) (ASource asked)
      (λ calls. ByComingUp asked undecided.0 undecided.1 allowed calls) (of_client event id []) (nothing_of event id [] refl)
  step_by event o (ComesUp mount shown none allowed) =
      comes_up event (w.station.last_id + 1) mount (shown_for w.station mount shown)
      (raised w.station (w.station.last_id + 1) mount (shown_for w.station mount shown)) refl refl none (grind (arith, nat_tests))
      (sound_just_raised w s mount (shown_for w.station mount shown) none) (ARelay mount shown)
      (λ calls. ByRelayUp mount shown allowed calls) [] refl
  step_by event o (Receives him mount block feeding) = lags him mount block feeding (of_client event id []) (nothing_of event id [] refl)
  step_by event o (Shows _ asker peer text its undecided what) =
      stays (changed w o.change) event (of_client event id []) mine (nothing_of event id [] refl) refl
  step_by event o (Obeys _ command c) = obeys event command c (of_client event id []) (nothing_of event id [] refl)
  step_by event o (HasPassed ms e) = stays w event [] mine refl refl
  step_by event o (Ticks ms e) = fares (ticked w ms) (Clock ms) Nobody (ticked_fates w s ms) [] refl
  step_by event o (SetsTitle him mount text feeding) =
      stays (changed w o.change) event (of_client event id []) mine (nothing_of event id [] refl) refl
  step_by event o (TakesSeat asked peer session undecided lands live allowed) =
      takes_seat_at asked peer session undecided lands live allowed (of_client event id []) (nothing_of event id [] refl)
  step_by event o (HandsOut him room seat session sits has live) = hands_at him room seat session sits has live
  step_by event o (Ends him mount feeding no_relay) =
      fares (changed w (End him mount)) (SourceEnd him) (λ him'. client_in (SourceEnd him) ≡ Some him') (ended_fates w s him mount feeding no_relay)
      (of_client event id []) (nothing_of event id [] refl)
  step_by event o (EndsAndLeaves _ him mount closes feeding) =
      fares (changed w (EndAndLeave him mount)) event (λ him'. client_in event ≡ Some him') (ended_and_left_fates w s him mount feeding event closes)
      (of_client event id []) (nothing_of event id [] refl)
  step_by event o (Leaves him no_relay other) = goes event him
  step_by event o (GoesDown him rule relay told) = goes event him

  turn_of : (event : Event) → Turn w (world_after w event) event id mine (handed_at w event id) (seat_of (world_after w event).seats id)
  unfolding reply_to world_after
  turn_of event = step_by event (outcome w event) (way_of w event)

  -- whoever has lost its seat has left, or was finished
  by_turn : (event : Event) (before : Option Seat) (bytes : List ℕ) (later : Option Seat) → mine ≡ before
      → seat_of (world_after w event).seats id ≡ later → Turn w (world_after w event) event id before bytes later → SeatStep w (Finishes w event id) event id before bytes later
  by_turn event before bytes later had has (Rests seat) = Stays seat
  by_turn event before bytes later had has (Draws seat session room e live number within) = IsHanded seat session room e live number within
  by_turn event before bytes later had has (Comes asked peer session e his undecided lands live allowed) =
      SitsDown asked peer session e his undecided lands live allowed
  by_turn event before bytes later had has (Moves seat session takes sent live opens apart) = HeIsMoved seat session takes sent live opens apart
  by_turn event before bytes later had has (Hears seat session coming none live empty zero start past) =
      IsGiven seat session coming none live empty zero start past
  by_turn event before bytes later had has (Goes None) = Stays None
  by_turn event before bytes later had has (Goes (Some seat)) = by_loss (loses_no_seat_else w s event id seat had has) where
    by_loss : (event ≡ Leave id) ⊎ ((rule : Rule) × Finishes w event id rule) → SeatStep w (Finishes w event id) event id (Some seat) [] None
    by_loss (inl left) = HeLeaves seat left
    by_loss (inr finished) = HeIsEnded seat finished.0 finished.1

pub seats_step : (w : World) → IsSound w → (event : Event) → SeatsStep w event
seats_step w s event id =
    by_turn w s id event (seat_of w.seats id) (handed_at w event id) (seat_of (world_after w event).seats id) refl refl (turn_of w s id event)
