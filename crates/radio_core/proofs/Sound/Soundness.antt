-- what holds of every state of a run holds still after each event
use Rattle.std.proofs.Common.{◌≡◌, true, false, ℕ, ◌+◌, ◌<◌, ◌≤◌, ◌==◌, Option, Some, None, List, refl, ap, sym, subst, ◌∙◌, arith}
use Rattle.radio_core.proofs.Words.{bytes_eq, nat_tests, Peer, by_number, by_name, ListenRequest, Answer, Admit, TakeSeat, Forget, Seat, Standing, Unknown, Undecided, Feeds, Sits, Answered, StationState, World}
use Rattle.radio_core.proofs.Words.{standing_of, changed, first_seat, burst_of, seat_of, seat_in, without_listener, AreByNumber, Session, session_of, AreApart, IsSeatedIn, IsSound, beside_left, beside_seated}
use Rattle.radio_core.proofs.Words.{is_no_listener, has_sat_down, burst_within, order_left, order_seated, heard_at, AreRising, end_of, heard_cases, heard_live, heard_same}
use Rattle.radio_core.proofs.Clients.Standings.{Turns, asks, turns_answered, turns_sitting, turns_forgotten, turns_admitted}

-- the mount has a session that is fed by the same source and goes as far
abbrev pub IsLiveStill : StationState → List ℕ → Session → Type 0
IsLiveStill station mount session =
    (now : Session) × (session_of station.live mount ≡ Some now) × (now.number ≡ session.number) × (end_of session.stream ≤ end_of now.stream)

module _ (w : World) (s : IsSound w) where
  -- a listener keeps a sound seat if each mount has the same session for its listeners
  pub seated_still : (later : World) → ((mount : List ℕ) → heard_at later.station mount ≡ heard_at w.station mount) → (seat : Seat)
      → IsSeatedIn w seat → IsSeatedIn later seat
  seated_still later heard seat old = record {
    session = old.session;
    is_heard = heard seat.mount ∙ old.is_heard;
    his_session = old.his_session;
    within =
        old.within;
  }

  -- and where one mount's session has become another that goes as far, and no other mount's has
  module _ (station : StationState) (mount : List ℕ) (him : ℕ) (feeding : standing_of w him ≡ Feeds mount) (settings : station.settings ≡ w.station.settings)
      (beside : (other : List ℕ) → bytes_eq mount other ≡ false → session_of station.live other ≡ session_of w.station.live other)
      (still : (other : List ℕ) (session : Session) → session_of w.station.live other ≡ Some session → IsLiveStill station other session) where
    pub seated_beside : (id : ℕ) (seat : Seat) → seat_of w.seats id ≡ Some seat → IsSeatedIn (record w { station = station }) seat
    seated_beside id seat e =
        let old = s.seated id seat e in
        heard_cases w.station seat.mount old.session old.is_heard
        (λ there.
        let now = still seat.mount old.session there in
        record {
          session = now.0;
          is_heard = heard_live station seat.mount now.0 now.1;
          his_session = now.2 ∙ old.his_session;
          within = omega (arith, now.3, old.within);
        })
        (λ none silent.
        by_name mount seat.mount
        (λ same. let ours = s.feeds him mount feeding in let there : session_of w.station.live mount ≡ None = ap (session_of w.station.live) same ∙ none in cc)
        (λ apart. record {
          session = old.session;
          is_heard = heard_same station w.station seat.mount settings (beside seat.mount apart) ∙ old.is_heard;
          his_session = old.his_session;
          within = old.within;
        }))

  -- and sits still, where seats are as they were, and another turns who had none
  pub sits_still : (later : World) (him : ℕ) (now : Standing) → Turns w later him now → ((id : ℕ) → seat_of later.seats id ≡ seat_of w.seats id)
      → (standing_of w him ≡ Sits → ⊥) → (id : ℕ) (seat : Seat) → seat_of later.seats id ≡ Some seat → standing_of later id ≡ Sits
  sits_still later him now t seats not id seat e =
      let sat : standing_of w id ≡ Sits = s.sitting id seat (sym (seats id) ∙ e) in
      by_number him id (λ same. absurd (not (ap (standing_of w) same ∙ sat))) (λ other. t.others id other ∙ sat)

  -- one client turns to something else, and neither fed a mount nor does now
  module _ (later : World) (him : ℕ) (now : Standing) (t : Turns w later him now) (apart : AreApart later.station.live)
      (order : AreByNumber later.seats)
      (sessions : (mount : List ℕ) → session_of later.station.live mount ≡ session_of w.station.live mount)
      (sitting : (id : ℕ) (seat : Seat) → seat_of later.seats id ≡ Some seat → standing_of later id ≡ Sits)
      (seated : (id : ℕ) (seat : Seat) → seat_of later.seats id ≡ Some seat → IsSeatedIn later seat) (last : w.station.last_id ≤ later.station.last_id)
      (above : later.station.last_id < him → now ≡ Unknown) (zero : him ≡ 0 → now ≡ Unknown) (not_before : (mount : List ℕ) → standing_of w him ≡ Feeds mount → ⊥)
      (not_now : (mount : List ℕ) → now ≡ Feeds mount → ⊥) where
    pub sound_turned : IsSound later
    sound_turned = record {
      numbered = λ id h.
          by_number him id
          (λ same. let here : later.station.last_id < him = omega arith in ap (standing_of later) (sym same) ∙ t.his ∙ above here)
          (λ other. let high : w.station.last_id < id = omega arith in t.others id other ∙ s.numbered id high);
      from_one = by_number him 0 (λ same. ap (standing_of later) (sym same) ∙ t.his ∙ zero same) (λ other. t.others 0 other ∙ s.from_one);
      feeds = λ id mount e.
          by_number him id
          (λ same. absurd (not_now mount (sym t.his ∙ ap (standing_of later) same ∙ e)))
          (λ other. let old = s.feeds id mount (sym (t.others id other) ∙ e) in (old.0, sessions mount ∙ old.1, old.2));
      fed = λ mount session e.
          let was = s.fed mount session (sym (sessions mount) ∙ e) in
          by_number him session.number (λ same. absurd (not_before mount (ap (standing_of w) same ∙ was))) (λ other. t.others session.number other ∙ was);
      apart = apart;
      starts = λ mount session e. s.starts mount session (sym (sessions mount) ∙ e);
      by_number = order;
      sitting = sitting;
      seated = seated;
    }

  -- a client has no seat before it is known, and so on
  known_low : (id : ℕ) (now : Standing) → standing_of w id ≡ now → (now ≡ Unknown → ⊥) → w.station.last_id < id → {A : Type 0} → A
  known_low id now e known high {A} = absurd (known (sym e ∙ s.numbered id high))

  known_past_zero : (id : ℕ) (now : Standing) → standing_of w id ≡ now → (now ≡ Unknown → ⊥) → id ≡ 0 → {A : Type 0} → A
  known_past_zero id now e known zero {A} = absurd (known (sym e ∙ ap (standing_of w) zero ∙ s.from_one))

  pub sound_answered : (id : ℕ) (peer : Peer) → standing_of w id ≡ Undecided peer → IsSound (changed w (Answer id))
  sound_answered id peer e =
      let t = turns_answered w id (asks w id peer e) in
      sound_turned (changed w (Answer id)) id Answered t s.apart s.by_number (λ mount. refl)
      (sits_still (changed w (Answer id)) id Answered t (λ him. refl) (λ u. cc))
      (λ him seat h. seated_still (changed w (Answer id)) (λ mount. refl) seat (s.seated him seat h))
      (omega arith) (λ high. known_low id (Undecided peer) e (λ u. cc) high) (λ zero. known_past_zero id (Undecided peer) e (λ u. cc) zero) (λ mount f. cc) (λ mount f. cc)

  pub sound_forgotten : (id : ℕ) → ((mount : List ℕ) → standing_of w id ≡ Feeds mount → ⊥) → IsSound (changed w (Forget id))
  sound_forgotten id not_feeding =
      sound_turned (changed w (Forget id)) id Unknown (turns_forgotten w id) s.apart (order_left w.seats s.by_number id) (λ mount. refl) sitting seated
      (omega arith) (λ high. refl) (λ zero. refl) not_feeding (λ mount f. cc) where
        sitting : (him : ℕ) (seat : Seat) → seat_of (without_listener w.seats id) him ≡ Some seat → standing_of (changed w (Forget id)) him ≡ Sits
        sitting him seat h =
            by_number id him
            (λ same. let none : seat_of (without_listener w.seats id) him ≡ None =
            ap (seat_of (without_listener w.seats id)) (sym same) ∙ ap seat_in (is_no_listener w.seats id) in cc)
            (λ other. (turns_forgotten w id).others him other ∙ s.sitting him seat (sym (ap seat_in (beside_left w.seats id him other)) ∙ h))

        seated : (him : ℕ) (seat : Seat) → seat_of (without_listener w.seats id) him ≡ Some seat → IsSeatedIn (changed w (Forget id)) seat
        seated him seat h =
            by_number id him
            (λ same. let none : seat_of (without_listener w.seats id) him ≡ None =
            ap (seat_of (without_listener w.seats id)) (sym same) ∙ ap seat_in (is_no_listener w.seats id) in cc)
            (λ other. seated_still (changed w (Forget id)) (λ mount. refl) seat (s.seated him seat (sym (ap seat_in (beside_left w.seats id him other)) ∙ h)))

  -- of a newcomer nothing was known
  pub sound_admitted : (peer : Peer) → IsSound (changed w (Admit (w.station.last_id + 1) peer))
  sound_admitted peer =
      let id = w.station.last_id + 1 in
      let unknown : standing_of w id ≡ Unknown = s.numbered id (omega arith) in
      let t = turns_admitted w id peer in
      sound_turned (changed w (Admit id peer)) id (Undecided peer) t s.apart s.by_number (λ mount. refl)
      (sits_still (changed w (Admit id peer)) id (Undecided peer) t (λ him. refl) (λ u. cc))
      (λ him seat h. seated_still (changed w (Admit id peer)) (λ mount. refl) seat (s.seated him seat h))
      (omega arith) (λ high. absurd (omega arith)) (λ zero. absurd (omega (arith, zero))) (λ mount f. cc) (λ mount f. cc)

  -- a listener sits down
  module _ (asked : ListenRequest) (peer : Peer) (session : Session) (e : standing_of w asked.id ≡ Undecided peer)
      (live : heard_at w.station session.mount ≡ Some session) where
    abbrev pub new_seat : Seat
    new_seat = first_seat w.station asked peer session

    abbrev pub after_seat : World
    after_seat = changed w (TakeSeat asked.id new_seat)

    pub turns_seated : Turns w after_seat asked.id Sits
    turns_seated = turns_sitting w asked.id new_seat (asks w asked.id peer e)

    -- it has that seat, and had none before
    pub has_new_seat : seat_of after_seat.seats asked.id ≡ Some new_seat
    has_new_seat =
        let itself : (asked.id == asked.id) ≡ true = grind (arith, nat_tests) in
        ap seat_in (has_sat_down w.seats asked.id new_seat itself)

    pub had_no_seat : seat_of w.seats asked.id ≡ None
    had_no_seat = by_found (seat_of w.seats asked.id) refl where
      by_found : (found : Option Seat) → seat_of w.seats asked.id ≡ found → seat_of w.seats asked.id ≡ None
      by_found None none = none
      by_found (Some seat) has = let sat : standing_of w asked.id ≡ Sits = s.sitting asked.id seat has in cc

    pub beside_new_seat : (id : ℕ) → (asked.id == id) ≡ false → seat_of after_seat.seats id ≡ seat_of w.seats id
    beside_new_seat id other = ap seat_in (beside_seated w.seats asked.id id other new_seat)

    rising : AreRising session.stream.starts (end_of session.stream)
    rising =
        heard_cases w.station session.mount session live (λ there. s.starts session.mount session there)
        (λ none silent. subst (λ (x : Session). AreRising x.stream.starts (end_of x.stream)) silent tt)

    new_seated : IsSeatedIn after_seat new_seat
    new_seated = record {
      session = session;
      is_heard = live;
      his_session = refl;
      within = burst_within session.stream (burst_of w.station session.mount) rising;
    }

    all_seated : (id : ℕ) (seat : Seat) → seat_of after_seat.seats id ≡ Some seat → IsSeatedIn after_seat seat
    all_seated id seat h =
        by_number asked.id id
        (λ same.
        let found : Some new_seat ≡ Some seat = sym has_new_seat ∙ ap (seat_of after_seat.seats) same ∙ h in
        let one : new_seat ≡ seat = cc in
        subst (λ (x : Seat). IsSeatedIn after_seat x) one new_seated)
        (λ other. seated_still after_seat (λ mount. refl) seat (s.seated id seat (sym (beside_new_seat id other) ∙ h)))

    all_sit : (id : ℕ) (seat : Seat) → seat_of after_seat.seats id ≡ Some seat → standing_of after_seat id ≡ Sits
    all_sit id seat h =
        by_number asked.id id
        (λ same. ap (standing_of after_seat) (sym same) ∙ turns_seated.his)
        (λ other. turns_seated.others id other ∙ s.sitting id seat (sym (beside_new_seat id other) ∙ h))

    pub sound_sits : IsSound after_seat
    sound_sits =
        sound_turned after_seat asked.id Sits turns_seated s.apart (order_seated w.seats s.by_number asked.id new_seat) (λ mount. refl) all_sit all_seated
        (omega arith) (λ high. known_low asked.id (Undecided peer) e (λ u. cc) high)
        (λ zero. known_past_zero asked.id (Undecided peer) e (λ u. cc) zero) (λ mount f. cc) (λ mount f. cc)
