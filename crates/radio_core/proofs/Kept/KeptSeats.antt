-- what holds of each seat's place in the stream of its session holds still after each event
use Rattle.std.proofs.Common.{◌≡◌, ◌⊎◌, inl, inr, Bool, true, false, ℕ, ◌+◌, ◌-◌, ◌≤◌, ◌==◌, Option, Some, None, List, [], ◌∷◌, length, refl, ap, sym}
use Rattle.std.proofs.Common.{subst, ◌∙◌, arith}
use Rattle.radio_core.proofs.Words.{◌&&◌, nat_lt, if◌then◌else◌, fold, option_map, bytes_eq, ltb-false, nat_tests, bytes_eq-Decides, Rule, Lagged, TimeOver, Killed, ListenerPassword, Peer, Shown, find_here, find_later}
use Rattle.radio_core.proofs.Words.{find_apart, by_number, by_name, Listener, Seat, Seating, had_seat, kept_seat, is_listener, listener_of, seat_held, loses, lost_by, with_end, seat_of, seat_in, with_seat, with_place}
use Rattle.radio_core.proofs.Words.{without_listener, AreByNumber, with_session_at, beside_moved, beside_left, beside_seated, is_no_listener, has_sat_down, has_heard, Command, MoveClients, KillClient, KillSource}
use Rattle.radio_core.proofs.Words.{SetFallback, AddUser, DeleteUser, Event, ListenRequest, Receive, TakeSeat, Advance, End, EndAndLeave, Forget, Obey, Outcome, options_for, Move, Up, To, seat_at_end, Faring, HasStayed}
use Rattle.radio_core.proofs.Words.{HasGone, HasLost, fares, StationState, Lists, with_user_at, without_user_at, is_shut_out, answered, outsiders_ended, session_killed, changed, carried_along, session_over}
use Rattle.radio_core.proofs.Words.{session_ended, called_home, session_begun, session_raised, is_on_air, is_taken_in, begun, raised, received, before_silence, session_silenced, silent_in, ticked, laggards_ended}
use Rattle.radio_core.proofs.Words.{live_end, sight_of, EachSeat, burst_of, first_seat, Session, session_of, opened, with_session, longer, with_title, shown_for, outcome, WholeStream, no_data, end_of, with_block}
use Rattle.radio_core.proofs.Words.{burst_start, data_at, lags_behind, has_sat_out, Way, Misplaced, IsFinished, IsDenied, IsRefused, IsAdmitted, Begins, ComesUp, Receives, SetsTitle, TakesSeat, HandsOut, Ends}
use Rattle.radio_core.proofs.Words.{EndsAndLeaves, Leaves, GoesDown, Obeys, Shows, HasPassed, Ticks, World, world, station_called, beside_fed, beside_titled, beside_begun, is_new_session, order_ended, same_order, way_of}
use Rattle.radio_core.proofs.Words.{heard_at, heard_live, bytes_apart, numbers_hearing}
use Rattle.radio_seats_rows.specs.declared.seat.Seating.TheVariants.{Sits as HasSeat, Finished as HasFinished}
use Rattle.radio_events.specs.declared.command.Command.TheVariants.{SetTitle as NewTitle}
use Rattle.radio_parts_changes.specs.declared.change.Change.TheVariants.{SetTitle}
use Rattle.radio_fallback.specs.declared.moves.Move.TheVariants.{Ended as SessionEnds}
use Rattle.radio_core.proofs.Seats.ChangedUsers.{with_lists}
use Rattle.radio_core.proofs.Commands.CommandLemmas.{obeyed_keeps}
use Rattle.radio_core.proofs.Clients.CarriedFates.{order_carried}
use Rattle.radio_parts_mount.specs.StatePart.{end_in}
use Rattle.radio_core.proofs.Sound.SoundEnds.{was_live}
use Rattle.radio_core.proofs.Sessions.UpdatedSessions.{session_updated}
use Rattle.radio_core.proofs.Seats.GivenSeats.{sat_elsewhere}

-- it sits at the end of its session's stream
abbrev pub SitsAtEnd : World → Seat → Type 0
SitsAtEnd w seat = (session : Session) → session_of w.station.live seat.mount ≡ Some session → seat.place ≡ end_of session.stream

-- whoever has a seat had it, or sits at the end of its stream, and no session is there that was not
record HasFewer (w later : World) : Type 0 where
  pub settings : later.station.settings ≡ w.station.settings
  pub seats : (id : ℕ) (seat : Seat) → seat_of later.seats id ≡ Some seat → (seat_of w.seats id ≡ Some seat) ⊎ SitsAtEnd later seat
  pub sessions : (mount : List ℕ) (session : Session) → session_of later.station.live mount ≡ Some session → session_of w.station.live mount ≡ Some session

fewer_twice : (w mid later : World) → HasFewer w mid → HasFewer mid later → HasFewer w later
fewer_twice w mid later a b = record {
  settings = b.settings ∙ a.settings;
  seats = λ id seat e. by_later id seat (b.seats id seat e);
  sessions = λ mount session e. a.sessions mount session (b.sessions mount session e);
} where
  by_first : (id : ℕ) (seat : Seat) → (seat_of w.seats id ≡ Some seat) ⊎ SitsAtEnd mid seat → (seat_of w.seats id ≡ Some seat) ⊎ SitsAtEnd later seat
  by_first id seat (inl had) = inl had
  by_first id seat (inr ends) = inr (λ session live. ends session (b.sessions seat.mount session live))

  by_later : (id : ℕ) (seat : Seat) → (seat_of mid.seats id ≡ Some seat) ⊎ SitsAtEnd later seat → (seat_of w.seats id ≡ Some seat) ⊎ SitsAtEnd later seat
  by_later id seat (inl had) = by_first id seat (a.seats id seat had)
  by_later id seat (inr ends) = inr ends

-- whoever is carried along goes on at the end of a stream
fewer_carried : (w : World) (move : Move) → AreByNumber w.seats → HasFewer w (carried_along w move)
fewer_carried w move order = record {
  settings = refl;
  seats = λ id seat e. by_fare id seat e (fares (sight_of w.station) move w.seats order id);
  sessions = λ mount session e. e;
} where
  by_fare : (id : ℕ) (seat : Seat) → seat_of (carried_along w move).seats id ≡ Some seat → Faring (sight_of w.station) move w.seats id
      → (seat_of w.seats id ≡ Some seat) ⊎ SitsAtEnd (carried_along w move) seat
  by_fare id seat e (HasStayed same turn) = inl (sym (ap seat_in same) ∙ e)
  by_fare id seat e (HasGone old to turn had concerned fits now) =
      let both : Some (seat_at_end (sight_of w.station) to old) ≡ Some seat = sym (ap seat_in now) ∙ e in
      let one : seat_at_end (sight_of w.station) to old ≡ seat = cc in
      inr (λ session live.
      let here : session_of w.station.live to ≡ Some session = ap (λ (x : Seat). session_of w.station.live x.mount) one ∙ live in
      ap (λ (x : Seat). x.place) (sym one) ∙ ap end_in here)
  by_fare id seat e (HasLost old rule turn had concerned now) = let none : seat_of (carried_along w move).seats id ≡ None = ap seat_in now in cc

fewer_over : (w : World) (mount : List ℕ) → HasFewer w (session_over w mount)
fewer_over w mount = record { settings = refl; seats = λ id seat e. inl e; sessions = λ other session e. was_live w mount other session e }

fewer_ended : (w : World) (mount : List ℕ) → AreByNumber w.seats → HasFewer w (session_ended w mount)
fewer_ended w mount order =
    fewer_twice w (session_over w mount) (session_ended w mount) (fewer_over w mount) (fewer_carried (session_over w mount) (SessionEnds mount) order)

order_over : (w : World) (mount : List ℕ) → AreByNumber w.seats → AreByNumber (session_ended w mount).seats
order_over w mount order = order_carried (session_over w mount) (SessionEnds mount) order

seat_before : (w : World) (him id : ℕ) (seat : Seat) → seat_of (without_listener w.seats him) id ≡ Some seat → seat_of w.seats id ≡ Some seat
seat_before w him id seat e =
    by_number him id
    (λ same.
    let none : seat_of (without_listener w.seats him) id ≡ None
    = ap (seat_of (without_listener w.seats him)) (sym same) ∙ ap seat_in (is_no_listener w.seats him) in cc)
    (λ apart. sym (ap seat_in (beside_left w.seats him id apart)) ∙ e)

fewer_left : (w : World) (him : ℕ) → HasFewer w (changed w (Forget him))
fewer_left w him = record { settings = refl; seats = λ id seat e. inl (seat_before w him id seat e); sessions = λ mount session e. e }

-- whoever has a seat after one has lost its had it before
pub seat_unless_lost : (w : World) (him : ℕ) (rule : Rule) (id : ℕ) (seat : Seat) → seat_of (with_end w.seats him rule) id ≡ Some seat → seat_of w.seats id ≡ Some seat
seat_unless_lost w him rule id seat e =
    by_number him id (λ same. by_found same (listener_of w.seats him) refl)
    (λ apart. sym (ap seat_in (find_apart (is_listener id) (is_listener him) (loses rule) (λ x his. (not_him x apart his, not_him x apart his)) w.seats)) ∙ e) where
      not_him : (x : Listener) → (him == id) ≡ false → is_listener him x ≡ true → is_listener id x ≡ false
      not_him x apart his = grind (arith, nat_tests)

      ends_at : (x : Listener) (xs : List Listener) (his : Bool) → is_listener him x ≡ his
          → listener_of (with_end xs him rule) him ≡ option_map (loses rule) (listener_of xs him)
          → listener_of (if his then loses rule x ∷ xs else x ∷ with_end xs him rule) him ≡ option_map (loses rule) (if his then Some x else listener_of xs him)
      ends_at x xs true e later = find_here (is_listener him) (loses rule x) xs e
      ends_at x xs false e later = find_later (is_listener him) x (with_end xs him rule) e ∙ later

      ends_in : (xs : List Listener) → listener_of (with_end xs him rule) him ≡ option_map (loses rule) (listener_of xs him)
      ends_in [] = refl
      ends_in (x ∷ xs) = ends_at x xs (is_listener him x) refl (ends_in xs)

      none_held : (seating : Seating) → seat_held (lost_by rule seating) ≡ None
      none_held (HasSeat own) = refl
      none_held (HasFinished by last) = refl

      by_found : him ≡ id → (found : Option Listener) → listener_of w.seats him ≡ found → seat_of w.seats id ≡ Some seat
      by_found same None none =
          let still : listener_of (with_end w.seats him rule) him ≡ None = ends_in w.seats ∙ ap (option_map (loses rule)) none in
          let gone : seat_of (with_end w.seats him rule) id ≡ None = ap (seat_of (with_end w.seats him rule)) (sym same) ∙ ap seat_in still in cc
      by_found same (Some listener) found =
          let now : listener_of (with_end w.seats him rule) him ≡ Some (loses rule listener) =
          ends_in w.seats ∙ ap (option_map (loses rule)) found in
          let gone : seat_of (with_end w.seats him rule) id ≡ None =
          ap (seat_of (with_end w.seats him rule)) (sym same) ∙ ap seat_in now ∙ none_held listener.seating in cc

fewer_silenced : (sessions : List Session) (w : World) → AreByNumber w.seats → HasFewer w (fold session_silenced w sessions)
fewer_silenced [] w order = record { settings = refl; seats = λ id seat e. inl e; sessions = λ mount session e. e }
fewer_silenced (session ∷ sessions) w order =
    let ended = fewer_ended w session.mount order in
    let next = session_silenced w session in
    fewer_twice w next (fold session_silenced next sessions) (record { settings = refl; seats = ended.seats; sessions = ended.sessions })
    (fewer_silenced sessions next (order_over w session.mount order))

fewer_ticked : (w : World) (ms : ℕ) → AreByNumber w.seats → HasFewer w (ticked w ms)
fewer_ticked w ms order =
    let later = before_silence w ms in
    fewer_twice w later (ticked w ms)
    (record {
      settings = refl;
      seats = λ id seat e. inl (had_seat (has_sat_out w.station.settings ms) TimeOver w.seats id seat e);
      sessions = λ mount session e. e;
    })
    (fewer_silenced (silent_in later) later (order_ended w.seats order (has_sat_out w.station.settings ms) TimeOver))

fewer_called : (w : World) (mount : List ℕ) → AreByNumber w.seats → HasFewer w (called_home w mount)
fewer_called w mount order = by_test (options_for w.station.settings mount).listeners.fallback_override where
  by_test : (b : Bool) → HasFewer w (if b then carried_along w (Up mount) else w)
  by_test true = fewer_carried w (Up mount) order
  by_test false = record { settings = refl; seats = λ id seat e. inl e; sessions = λ other session e. e }

-- no change changes the settings
settings_by : (w : World) → AreByNumber w.seats → (event : Event) (o : Outcome) → Way w event o → (changed w o.change).station.settings ≡ w.station.settings
settings_by w order event o (Misplaced _) = refl
settings_by w order event o (IsFinished _ id rule his told) = refl
settings_by w order event o (IsDenied _ rule v other) = refl
settings_by w order event o (IsRefused _ id rule v his undecided) = refl
settings_by w order event o (IsAdmitted peer allowed) = refl
settings_by w order event o (Begins asked undecided none allowed) =
    ap (λ (h : StationState). h.settings) (station_called (session_begun w asked.id asked.mount (shown_for w.station asked.mount asked.shown)) asked.mount)
settings_by w order event o (ComesUp mount shown none allowed) =
    ap (λ (h : StationState). h.settings) (station_called (session_raised w (w.station.last_id + 1) mount (shown_for w.station mount shown)) mount)
settings_by w order event o (Receives id mount block feeding) = refl
settings_by w order event o (Shows _ asker peer text its undecided what) = refl
settings_by w order event o (Obeys _ command c) = obeyed_keeps w c.asked.id command
settings_by w order event o (HasPassed ms e) = refl
settings_by w order event o (Ticks ms e) = (fewer_ticked w ms order).settings
settings_by w order event o (SetsTitle id mount text feeding) = refl
settings_by w order event o (TakesSeat asked peer session undecided lands live allowed) = refl
settings_by w order event o (HandsOut id room seat session sits has live) = refl
settings_by w order event o (Ends id mount feeding no_relay) = refl
settings_by w order event o (EndsAndLeaves _ id mount closes feeding) = refl
settings_by w order event o (Leaves id no_relay other) = refl
settings_by w order event o (GoesDown id rule relay told) = refl

pub settings_stay : (w : World) → AreByNumber w.seats → (event : Event) → (changed w (outcome w event).change).station.settings ≡ w.station.settings
settings_stay w order event = settings_by w order event (outcome w event) (way_of w event)

-- who is not behind at the mount
not_behind : {queue : ℕ} (there : Bool) (lag : ℕ) → there ≡ true → (there && nat_lt queue lag) ≡ false → lag ≤ queue
not_behind {queue} true lag e h = ltb-false queue lag h
not_behind false lag e h = cc

-- what holds of each seat. It holds at the start, at the end, of a burst and further on, and when the stream grows and the seat stays
pub record HoldsOn (P : WholeStream → ℕ → Type 0) (w : World) : Type 0 where
  pub at_none : (place : ℕ) → P no_data place
  pub at_end : (mount : List ℕ) (session : Session) → session_of w.station.live mount ≡ Some session → P session.stream (end_of session.stream)
  pub at_burst : (mount : List ℕ) (session : Session) (burst : ℕ) → session_of w.station.live mount ≡ Some session
      → burst ≤ w.station.settings.limits.queue_size → P session.stream (burst_start session.stream burst)
  pub further : (stream : WholeStream) (place more : ℕ) → P stream place → P stream (place + more)
  pub longer : (mount block : List ℕ) (session : Session) (place : ℕ) → session_of w.station.live mount ≡ Some session → P session.stream place
      → end_of (with_block session.stream block) - place ≤ w.station.settings.limits.queue_size → P (with_block session.stream block) place

module _ (P : WholeStream → ℕ → Type 0) (w : World) (order : AreByNumber w.seats) (holds : HoldsOn P w) (all : EachSeat P w) where
  each_fewer : (later : World) → HasFewer w later → EachSeat P later
  each_fewer later fewer id seat session has live = by_seat (fewer.seats id seat has) where
    before : session_of w.station.live seat.mount ≡ Some session
    before = fewer.sessions seat.mount session live

    by_seat : (seat_of w.seats id ≡ Some seat) ⊎ SitsAtEnd later seat → P session.stream seat.place
    by_seat (inl had) = all id seat session had before
    by_seat (inr ends) = subst (λ (n : ℕ). P session.stream n) (sym (ends session live)) (holds.at_end seat.mount session before)

  -- a session begins
  module _ (him : ℕ) (mount : List ℕ) (shown : Shown) (station : StationState)
      (begins : station.live ≡ with_session w.station.live (opened mount him shown w.station.time)) where
    abbrev fresh : Session
    fresh = opened mount him shown w.station.time

    abbrev up : World
    up = world station (with_session_at w.seats mount him)

    is_fresh : (at : List ℕ) (session : Session) → mount ≡ at → session_of station.live at ≡ Some session → fresh ≡ session
    is_fresh at session same live =
        let new = is_new_session w.station.live fresh at ((bytes_eq-Decides mount at).1 same) in
        let found : Some fresh ≡ Some session = sym new ∙ ap (λ (xs : List Session). session_of xs at) (sym begins) ∙ live in
        cc

    was_there : (at : List ℕ) (session : Session) → bytes_eq mount at ≡ false → session_of station.live at ≡ Some session
        → session_of w.station.live at ≡ Some session
    was_there at session apart live =
        sym (beside_begun w.station.live fresh at apart) ∙ ap (λ (xs : List Session). session_of xs at) (sym begins) ∙ live

    each_begun : EachSeat P (world station (with_session_at w.seats mount him))
    each_begun id seat session has live =
        by_name mount seat.mount
        (λ same. subst (λ (x : Session). P x.stream seat.place) (is_fresh seat.mount session same live) (holds.at_none seat.place))
        (λ apart. all id seat session (sat_elsewhere mount him w.seats id seat has (bytes_apart mount seat.mount apart)) (was_there seat.mount session apart live))

    -- and those come home whom it calls
    each_up : EachSeat P (called_home (world station (with_session_at w.seats mount him)) mount)
    each_up id seat session has live = by_seat (called.seats id seat has) where
      called : HasFewer up (called_home (world station (with_session_at w.seats mount him)) mount)
      called = fewer_called up mount (same_order w.seats up.seats (numbers_hearing mount him w.seats) order)

      before : session_of station.live seat.mount ≡ Some session
      before = called.sessions seat.mount session live

      by_seat : (seat_of up.seats id ≡ Some seat) ⊎ SitsAtEnd (called_home (world station (with_session_at w.seats mount him)) mount) seat
          → P session.stream seat.place
      by_seat (inl had) = each_begun id seat session had before
      by_seat (inr ends) =
          subst (λ (n : ℕ). P session.stream n) (sym (ends session live))
          (by_name mount seat.mount
          (λ same. subst (λ (x : Session). P x.stream (end_of x.stream)) (is_fresh seat.mount session same before) (holds.at_none 0))
          (λ apart. holds.at_end seat.mount session (was_there seat.mount session apart before)))

  -- a title is set
  each_titled : (mount text : List ℕ) → EachSeat P (changed w (SetTitle mount text))
  each_titled mount text = subst (EachSeat P) (sym (is_on_air w mount text)) (λ id seat session has live.
      session_updated w.station.live mount (with_title (Some text)) (λ x. refl) seat.mount session
      (λ apart. beside_titled w.station.live mount seat.mount apart text) live
      (λ old same found one. subst (λ (x : Session). P x.stream seat.place) one (all id seat old has found))
      (all id seat session has))

  -- a block is delivered, and who is too far behind then has lost its seat
  abbrev grown : List ℕ → List ℕ → World
  grown mount block = record w { station = received w.station mount block }

  each_received : (mount block : List ℕ) → EachSeat P (changed w (Receive mount block))
  each_received mount block = subst (EachSeat P) (sym (is_taken_in w mount block)) (λ id seat session has live.
      session_updated w.station.live mount (longer block w.station.time) (λ x. refl) seat.mount session
      (λ apart. beside_fed w.station.live mount seat.mount apart block w.station.time) live
      (λ old same found one.
      let end = live_end (received w.station mount block) mount in
      let now : live_end (received w.station mount block) seat.mount ≡ end_of session.stream = ap end_in live in
      let there : bytes_eq seat.mount mount ≡ true = (bytes_eq-Decides seat.mount mount).1 (sym same) in
      let near : lags_behind mount end queue seat ≡ false = kept_seat (lags_behind mount end queue) Lagged w.seats id seat has in
      let close = not_behind (bytes_eq seat.mount mount) (end - seat.place) there near in
      let at_end : end ≡ end_of (with_block old.stream block)
      = ap (live_end (received w.station mount block)) same ∙ now ∙ ap (λ (x : Session). end_of x.stream) (sym one) in
      subst (λ (x : Session). P x.stream seat.place) one
      (holds.longer seat.mount block old seat.place found (all id seat old (had id seat has) found) (subst (λ (n : ℕ). n - seat.place ≤ queue) at_end close)))
      (all id seat session (had id seat has))) where
        queue : ℕ
        queue = w.station.settings.limits.queue_size

        had : (id : ℕ) (seat : Seat) → seat_of (laggards_ended (grown mount block) mount).seats id ≡ Some seat → seat_of w.seats id ≡ Some seat
        had id seat e = had_seat (lags_behind mount (live_end (received w.station mount block) mount) w.station.settings.limits.queue_size) Lagged w.seats id seat e

  -- a listener sits down
  each_seated : (asked : ListenRequest) (peer : Peer) (session : Session) → heard_at w.station session.mount ≡ Some session
      → EachSeat P (changed w (TakeSeat asked.id (first_seat w.station asked peer session)))
  each_seated asked peer session live id seat other has found =
      let new = first_seat w.station asked peer session in
      by_number asked.id id
      (λ same.
      let itself : (asked.id == asked.id) ≡ true = grind (arith, nat_tests) in
      let his : Some new ≡ Some seat = sym (ap seat_in (has_sat_down w.seats asked.id new itself)) ∙ ap (seat_of (with_seat w.seats asked.id new)) same ∙ has in
      let one : new ≡ seat = cc in
      let there : session_of w.station.live session.mount ≡ Some other = ap (λ (x : Seat). session_of w.station.live x.mount) one ∙ found in
      let both : Some session ≡ Some other = sym live ∙ heard_live w.station session.mount other there in
      let its : session ≡ other = cc in
      subst (λ (x : Session). P x.stream seat.place) its
      (subst (λ (x : Seat). P session.stream x.place) one
      (holds.at_burst session.mount session (burst_of w.station session.mount) (there ∙ ap (λ (x : Session). Some x) (sym its)) (omega arith))))
      (λ apart. all id seat other (sym (ap seat_in (beside_seated w.seats asked.id id apart new)) ∙ has) found)

  -- a listener hears on
  each_heard : (him : ℕ) (old : Seat) (more : ℕ) → seat_of w.seats him ≡ Some old → EachSeat P (changed w (Advance him (old.place + more)))
  each_heard him old more sits id seat session has live =
      by_number him id
      (λ same.
      let his : Some (record old { place = old.place + more }) ≡ Some seat
      = sym (has_heard w.seats him (old.place + more) old sits) ∙ ap (seat_of (with_place w.seats him (old.place + more))) same ∙ has in
      let one : record old { place = old.place + more } ≡ seat = cc in
      let here : session_of w.station.live old.mount ≡ Some session = ap (λ (x : Seat). session_of w.station.live x.mount) one ∙ live in
      subst (λ (x : Seat). P session.stream x.place) one (holds.further session.stream old.place more (all him old session sits here)))
      (λ apart. all id seat session (sym (ap seat_in (beside_moved w.seats him id apart (old.place + more))) ∙ has) live)

  -- a command is done
  each_killed : (him : ℕ) (found : Option Session) → EachSeat P (session_killed (answered w him) found)
  each_killed him None = all
  each_killed him (Some session) =
      let ended = fewer_ended (answered w him) session.mount order in
      each_fewer (session_killed (answered w him) (Some session)) (record { settings = refl; seats = ended.seats; sessions = ended.sessions })

  each_left : (mount : List ℕ) (lists : Lists) → EachSeat P (outsiders_ended (with_lists w lists) mount)
  each_left mount lists id seat session has live = all id seat session (had_seat (is_shut_out lists mount) ListenerPassword w.seats id seat has) live

  each_obeyed : (command : Command) (him : ℕ) → EachSeat P (changed w (Obey him command))
  each_obeyed (MoveClients mount destination) him =
      let moved = fewer_carried (answered w him) (To mount destination) order in
      each_fewer (changed w (Obey him (MoveClients mount destination))) (record { settings = refl; seats = moved.seats; sessions = moved.sessions })
  each_obeyed (KillClient mount listener) him =
      each_fewer (changed w (Obey him (KillClient mount listener)))
      (record { settings = refl; seats = λ id seat e. inl (seat_unless_lost w listener Killed id seat e); sessions = λ other session e. e })
  each_obeyed (KillSource mount) him = each_killed him (session_of w.station.live mount)
  each_obeyed (NewTitle mount text) him = each_titled mount text
  each_obeyed (SetFallback mount fallback) him = all
  each_obeyed (AddUser mount user password) him = each_left mount (with_user_at w.station.lists mount user password)
  each_obeyed (DeleteUser mount user) him = each_left mount (without_user_at w.station.lists mount user)

  each_by : (event : Event) (o : Outcome) → Way w event o → EachSeat P (changed w o.change)
  each_by event o (Misplaced _) = all
  each_by event o (IsFinished _ id rule his told) = all
  each_by event o (IsDenied _ rule v other) = all
  each_by event o (IsRefused _ id rule v his undecided) = all
  each_by event o (IsAdmitted peer allowed) = all
  each_by event o (Begins asked undecided none allowed) =
      each_up asked.id asked.mount (shown_for w.station asked.mount asked.shown) (begun w.station asked.id asked.mount (shown_for w.station asked.mount asked.shown)) refl
  each_by event o (ComesUp mount shown none allowed) =
      each_up (w.station.last_id + 1) mount (shown_for w.station mount shown) (raised w.station (w.station.last_id + 1) mount (shown_for w.station mount shown)) refl
  each_by event o (Receives id mount block feeding) = each_received mount block
  each_by event o (Shows _ asker peer text its undecided what) = all
  each_by event o (Obeys _ command c) = each_obeyed command c.asked.id
  each_by event o (HasPassed ms e) = all
  each_by event o (Ticks ms e) = each_fewer (ticked w ms) (fewer_ticked w ms order)
  each_by event o (SetsTitle id mount text feeding) = each_titled mount text
  each_by event o (TakesSeat asked peer session undecided lands live allowed) = each_seated asked peer session live
  each_by event o (HandsOut id room seat session sits has live) = each_heard id seat (length (data_at session.stream seat.place room)) has
  each_by event o (Ends id mount feeding no_relay) =
      let ended = fewer_ended w mount order in
      each_fewer (changed w (End id mount)) (record { settings = refl; seats = ended.seats; sessions = ended.sessions })
  each_by event o (EndsAndLeaves _ id mount closes feeding) =
      each_fewer (changed w (EndAndLeave id mount))
      (fewer_twice w (session_ended w mount) (changed w (EndAndLeave id mount)) (fewer_ended w mount order) (fewer_left (session_ended w mount) id))
  each_by event o (Leaves id no_relay other) = each_fewer (changed w (Forget id)) (fewer_left w id)
  each_by event o (GoesDown id rule relay told) = each_fewer (changed w (Forget id)) (fewer_left w id)

  pub each_after : (event : Event) → EachSeat P (changed w (outcome w event).change)
  each_after event = each_by event (outcome w event) (way_of w event)
