-- what holds of every state of a run holds still after what sessions do
use Rattle.std.proofs.Common.{◌≡◌, true, false, ℕ, ◌+◌, ◌<◌, ◌≤◌, ◌==◌, Option, Some, None, List, length, drop, refl, ap, sym, subst, ◌∙◌, arith, length-append, Bool}
use Rattle.radio_core.proofs.Words.{bytes_eq, length-take, length-drop, nat_tests, bytes_eq-Decides, Peer, Shown, by_number, by_name, Advance, Seat, Seating, Unknown, Undecided, Feeds, Sits, StationState, World}
use Rattle.radio_core.proofs.Words.{standing_of, changed, session_begun, session_raised, begun, raised, received, seat_of, seat_in, seat_held, heard_to, with_session_at, Session, AreApart, is_of, session_of, opened}
use Rattle.radio_core.proofs.Words.{with_session, longer, AreRising, end_of, data_at, IsSeatedIn, IsSound, beside_moved, has_moved, begun_apart, updated_apart, bytes_apart, order_heard, same_order, beside_fed, is_longer}
use Rattle.radio_core.proofs.Words.{is_new_session, beside_begun, listener_seated, rising_more, heard_at, numbers_hearing, heard_cases, heard_live, heard_same, if◌then◌else◌}
use Rattle.radio_seats_rows.specs.declared.seat.Seating.TheVariants.{Sits as HasSeat, Finished as HasFinished}
use Rattle.radio_core.proofs.Clients.Standings.{Turns, asks, turns_feeding, turns_raised, stays_hearing, turns_given}
use Rattle.radio_core.proofs.Sound.Soundness.{IsLiveStill, seated_still, seated_beside}
use Rattle.radio_core.proofs.Seats.GivenSeats.{given_from}

-- the names of the mount are the same
same_names : (mount other : List ℕ) → mount ≡ other → bytes_eq mount other ≡ true
same_names mount other same = (bytes_eq-Decides mount other).1 same

-- a session begins on a mount that was not live, for one who sat nowhere and fed nothing
module _ (w : World) (s : IsSound w) (him : ℕ) (mount : List ℕ) (shown : Shown) (station : StationState)
    (live : station.live ≡ with_session w.station.live (opened mount him shown w.station.time)) (t : Turns w (record w { station = station }) him (Feeds mount))
    (not_live : session_of w.station.live mount ≡ None) where
  abbrev after_begin : World
  after_begin = record w { station = station }

  abbrev fresh : Session
  fresh = opened mount him shown w.station.time

  new_here : (other : List ℕ) → mount ≡ other → session_of after_begin.station.live other ≡ Some fresh
  new_here other same =
      ap (λ (sessions : List Session). session_of sessions other) live ∙ is_new_session w.station.live fresh other (same_names mount other same)

  as_before : (other : List ℕ) → bytes_eq mount other ≡ false → session_of after_begin.station.live other ≡ session_of w.station.live other
  as_before other apart = ap (λ (sessions : List Session). session_of sessions other) live ∙ beside_begun w.station.live fresh other apart

  -- and those hear it who sat there waiting for one
  abbrev after_given : World
  after_given = record { station = station; seats = with_session_at w.seats mount him }

  t' : Turns w after_given him (Feeds mount)
  t' = turns_given w station mount him him (Feeds mount) t

  -- a listener that sat there had drawn nothing
  pub waited : (id : ℕ) (old : Seat) → seat_of w.seats id ≡ Some old → old.mount ≡ mount → (old.session ≡ 0) × (old.place ≡ 0)
  waited id old had same =
      let before = s.seated id old had in
      heard_cases w.station old.mount before.session before.is_heard
      (λ there. let none : session_of w.station.live old.mount ≡ None = ap (session_of w.station.live) same ∙ not_live in cc)
      (λ none silent.
      let low : old.place ≤ 0 = subst (λ (x : Session). old.place ≤ end_of x.stream) (sym silent) before.within in (
        sym before.his_session ∙ sym (ap (λ (x : Session). x.number) silent),
        omega (arith, low),
      ))

  -- what was live is live as it was
  pub begun_beside : (other : List ℕ) (session : Session) → session_of w.station.live other ≡ Some session
      → session_of after_begin.station.live other ≡ Some session
  begun_beside other session e =
      by_name mount other
      (λ same. let none : session_of w.station.live other ≡ None = ap (session_of w.station.live) (sym same) ∙ not_live in cc)
      (λ apart. as_before other apart ∙ e)

  -- and what is live now is the new session, or was live
  pub begun_cases : {A : Type 0} (other : List ℕ) (session : Session) → session_of after_begin.station.live other ≡ Some session
      → (mount ≡ other → fresh ≡ session → A) → (session_of w.station.live other ≡ Some session → A) → A
  begun_cases {A} other session e new old =
      by_name mount other
      (λ same. let found : Some fresh ≡ Some session = sym (new_here other same) ∙ e in let one : fresh ≡ session = cc in new same one)
      (λ apart. old (sym (as_before other apart) ∙ e))

  module _ (numbers : (id : ℕ) → station.last_id < id → (w.station.last_id < id) × ((him == id) ≡ false))
      (fed_none : (other : List ℕ) → standing_of w him ≡ Feeds other → ⊥) (sat_nowhere : standing_of w him ≡ Sits → ⊥)
      (settings : station.settings ≡ w.station.settings) (past : (him == 0) ≡ false) where
    seated_by : (id : ℕ) (old : Seat) → seat_of w.seats id ≡ Some old → (there : Bool) → bytes_eq old.mount mount ≡ there
        → IsSeatedIn after_given (record old { session = (if there then him else old.session) })
    seated_by id old had true at =
        let same : old.mount ≡ mount = (bytes_eq-Decides old.mount mount).0 at in
        let place : old.place ≡ 0 = (waited id old had same).1 in
        record {
          session = fresh;
          is_heard = heard_live station old.mount fresh (new_here old.mount (sym same));
          his_session = refl;
          within = omega (arith, place);
        }
    seated_by id old had false away =
        let before = s.seated id old had in
        record {
          session = before.session;
          is_heard = heard_same station w.station old.mount settings (as_before old.mount (bytes_apart old.mount mount away)) ∙ before.is_heard;
          his_session = before.his_session;
          within = before.within;
        }

    pub sound_begun_so : IsSound after_given
    sound_begun_so = record {
      numbered = λ id h. let new = numbers id h in t'.others id new.1 ∙ s.numbered id new.0;
      from_one = t'.others 0 past ∙ s.from_one;
      feeds = λ id other e.
          by_number him id
          (λ same.
          let now : Feeds mount ≡ Feeds other = sym t'.his ∙ ap (standing_of after_given) same ∙ e in
          let one : mount ≡ other = cc in
          (fresh, new_here other one, same))
          (λ apart. let old = s.feeds id other (sym (t'.others id apart) ∙ e) in (old.0, begun_beside other old.0 old.1, old.2));
      fed = λ other session e.
          begun_cases other session e
          (λ same one. ap (λ (x : Session). standing_of after_given x.number) (sym one) ∙ t'.his ∙ ap (λ (m : List ℕ). Feeds m) same)
          (λ old.
          let was = s.fed other session old in
          by_number him session.number (λ same. absurd (fed_none other (ap (standing_of w) same ∙ was)))
          (λ apart. t'.others session.number apart ∙ was));
      apart = subst AreApart (sym live) (begun_apart fresh w.station.live not_live s.apart);
      starts = λ other session e.
          begun_cases other session e
          (λ same one. subst (λ (x : Session). AreRising x.stream.starts (end_of x.stream)) one tt)
          (λ old. s.starts other session old);
      by_number = same_order w.seats after_given.seats (numbers_hearing mount him w.seats) s.by_number;
      sitting = λ id seat e.
          let had = given_from mount him w.seats id seat e in
          let sat : standing_of w id ≡ Sits = s.sitting id had.0 had.1 in
          by_number him id (λ same. absurd (sat_nowhere (ap (standing_of w) same ∙ sat))) (λ apart. t'.others id apart ∙ sat);
      seated = λ id seat e.
          let had = given_from mount him w.seats id seat e in
          subst (λ (x : Seat). IsSeatedIn after_given x) had.2 (seated_by id had.0 had.1 (bytes_eq had.0.mount mount) refl);
    }

-- a client begins to feed
pub sound_begun : (w : World) → IsSound w → (him : ℕ) (mount : List ℕ) (shown : Shown) (peer : Peer) → standing_of w him ≡ Undecided peer
    → session_of w.station.live mount ≡ None → IsSound (session_begun w him mount shown)
sound_begun w s him mount shown peer stood not_live =
    sound_begun_so w s him mount shown (begun w.station him mount shown) refl (turns_feeding w him mount shown (asks w him peer stood)) not_live
    (λ id h. (h, by_number him id (λ same. let unknown : standing_of w him ≡ Unknown = ap (standing_of w) same ∙ s.numbered id h in cc) (λ apart. apart)))
    (λ other e. cc) (λ e. cc) refl
    (by_number him 0 (λ same. let unknown : standing_of w him ≡ Unknown = ap (standing_of w) same ∙ s.from_one in cc) (λ apart. apart))

-- a relay comes up
pub sound_raised : (w : World) → IsSound w → (mount : List ℕ) (shown : Shown) → session_of w.station.live mount ≡ None
    → IsSound (session_raised w (w.station.last_id + 1) mount shown)
sound_raised w s mount shown not_live =
    let him = w.station.last_id + 1 in
    let unknown : standing_of w him ≡ Unknown = s.numbered him (omega arith) in
    sound_begun_so w s him mount shown (raised w.station him mount shown) refl (turns_raised w him mount shown unknown) not_live
    (λ id h. (omega (arith, h), grind (arith, nat_tests, h)))
    (λ other e. cc) (λ e. cc) refl (grind (arith, nat_tests))

-- a source delivers a block
module _ (w : World) (s : IsSound w) (mount block : List ℕ) where
  abbrev after_block : World
  after_block = record w { station = received w.station mount block }

  pub grown : (other : List ℕ) (session : Session) → session_of w.station.live other ≡ Some session → IsLiveStill after_block.station other session
  grown other session e =
      by_name mount other
      (λ same.
      let here : session_of w.station.live mount ≡ Some session = ap (session_of w.station.live) same ∙ e in
      let longer_here = is_longer w.station.live mount block w.station.time session here in (
        longer block w.station.time session,
        ap (session_of after_block.station.live) (sym same) ∙ longer_here,
        refl,
        omega
            (arith, length-append session.stream.bytes block),
      ))
      (λ apart. (session, beside_fed w.station.live mount other apart block w.station.time ∙ e, refl, omega arith))

  -- what is live now was live, and is as it was or longer by the block
  pub grown_cases : {A : Type 0} (other : List ℕ) (now : Session) → session_of after_block.station.live other ≡ Some now
      → ((session : Session) → mount ≡ other → session_of w.station.live mount ≡ Some session → longer block w.station.time session ≡ now → A)
      → (bytes_eq mount other ≡ false → session_of w.station.live other ≡ Some now → A) → (session_of w.station.live mount ≡ None → A) → A
  grown_cases {A} other now e new old none =
      by_name mount other here (λ apart. old apart (sym (beside_fed w.station.live mount other apart block w.station.time) ∙ e)) where
        here : mount ≡ other → A
        here same = by_found (session_of w.station.live mount) refl where
          by_found : (found : Option Session) → session_of w.station.live mount ≡ found → A
          by_found None missing = none missing
          by_found (Some session) found =
              let longer_here : session_of after_block.station.live mount ≡ Some (longer block w.station.time session) =
              is_longer w.station.live mount block w.station.time session found in
              let both : Some (longer block w.station.time session) ≡ Some now = sym longer_here ∙ ap (session_of after_block.station.live) same ∙ e in
              let one : longer block w.station.time session ≡ now = cc in
              new session same found one

  pub sound_grown : (him : ℕ) → standing_of w him ≡ Feeds mount → IsSound after_block
  sound_grown him feeding = record {
    numbered = λ id h. s.numbered id h;
    from_one = s.from_one;
    feeds = λ id other e. let old = s.feeds id other e in let now = grown other old.0 old.1 in (now.0, now.1, now.2 ∙ old.2);
    fed = λ other now e.
        grown_cases other now e
        (λ session same found one. ap (λ (x : Session). standing_of w x.number) (sym one) ∙ s.fed mount session found ∙ ap (λ (m : List ℕ). Feeds m) same)
        (λ apart found. s.fed other now found)
        never;
    apart = updated_apart (is_of mount) (longer block w.station.time) (λ x. refl) w.station.live s.apart;
    starts = λ other now e.
        grown_cases other now e
        (λ session same found one. subst (λ (x : Session). AreRising x.stream.starts (end_of x.stream)) one
        (rising_more session.stream.starts (end_of session.stream) (end_of (longer block w.station.time session).stream)
        (omega (arith, length-append session.stream.bytes block)) (s.starts mount session found)))
        (λ apart found. s.starts other now found)
        never;
    by_number = s.by_number;
    sitting = λ id seat e. s.sitting id seat e;
    seated =
        seated_beside w s after_block.station mount him feeding refl (λ other apart. beside_fed w.station.live mount other apart block w.station.time) grown;
  } where
    never : {A : Type 0} → session_of w.station.live mount ≡ None → A
    never {A} none = let ours = s.feeds him mount feeding in let found : session_of w.station.live mount ≡ Some ours.0 = ours.1 in cc

-- a listener hears on
module _ (w : World) (s : IsSound w) (him room : ℕ) (seat : Seat) (session : Session) (sits : standing_of w him ≡ Sits)
    (has : seat_of w.seats him ≡ Some seat) (live : heard_at w.station seat.mount ≡ Some session) where
  abbrev behind : ℕ
  behind = seat.place + length (data_at session.stream seat.place room)

  abbrev after_draw : World
  after_draw = changed w (Advance him behind)

  moved : Seat → Seat
  moved old = record old { place = behind }

  pub behind_within : behind ≤ end_of session.stream
  behind_within =
      let old = s.seated him seat has in
      let same : Some old.session ≡ Some session = sym old.is_heard ∙ live in
      let one : old.session ≡ session = cc in
      let low : seat.place ≤ end_of session.stream = subst (λ (x : Session). seat.place ≤ end_of x.stream) one old.within in
      omega (arith, length-take room (drop seat.place session.stream.bytes), length-drop seat.place session.stream.bytes, low)

  -- its seat is the same, further on
  pub has_advanced : seat_of after_draw.seats him ≡ Some (record seat { place = behind })
  has_advanced =
      let listener = listener_seated w.seats him seat has in
      ap seat_in (has_moved w.seats him behind listener.0 listener.1) ∙ held listener.0.seating listener.2 where
        held : (seating : Seating) → seat_held seating ≡ Some seat
            → seat_held (heard_to (seat.place + length (data_at session.stream seat.place room)) seating) ≡ Some
            (record seat { place = seat.place + length (data_at session.stream seat.place room) })
        held (HasSeat old) e = let same : old ≡ seat = cc in ap (λ (x : Seat). Some (record x { place = behind })) same
        held (HasFinished rule mount) e = cc

  pub others_seats : (id : ℕ) → (him == id) ≡ false → seat_of after_draw.seats id ≡ seat_of w.seats id
  others_seats id other = ap seat_in (beside_moved w.seats him id other behind)

  pub sound_heard : IsSound after_draw
  sound_heard =
      let listener = listener_seated w.seats him seat has in
      let same = stays_hearing w him behind listener.0 listener.1 in
      record {
        numbered = λ id h. same id ∙ s.numbered id h;
        from_one = same 0 ∙ s.from_one;
        feeds = λ id other e. s.feeds id other (sym (same id) ∙ e);
        fed = λ other now e. same now.number ∙ s.fed other now e;
        apart = s.apart;
        starts = λ other now e. s.starts other now e;
        by_number = order_heard w.seats s.by_number him behind;
        sitting = λ id other e. same id ∙ sat_before id other e;
        seated = seated;
      } where
        sat_before : (id : ℕ) (other : Seat) → seat_of after_draw.seats id ≡ Some other → standing_of w id ≡ Sits
        sat_before id other e = by_number him id (λ one. ap (standing_of w) (sym one) ∙ sits) (λ apart. s.sitting id other (sym (others_seats id apart) ∙ e))

        his_own : IsSeatedIn after_draw (record seat { place = behind })
        his_own =
            let old = s.seated him seat has in
            let both : Some old.session ≡ Some session = sym old.is_heard ∙ live in
            let one : old.session ≡ session = cc in
            record { session = session; is_heard = live; his_session = ap (λ (x : Session). x.number) (sym one) ∙ old.his_session; within = behind_within }

        seated : (id : ℕ) (other : Seat) → seat_of after_draw.seats id ≡ Some other → IsSeatedIn after_draw other
        seated id other e =
            by_number him id
            (λ same.
            let found : Some (record seat { place = behind }) ≡ Some other = sym has_advanced ∙ ap (seat_of after_draw.seats) same ∙ e in
            let one : record seat { place = behind } ≡ other = cc in
            subst (λ (x : Seat). IsSeatedIn after_draw x) one his_own)
            (λ apart. seated_still w s after_draw (λ mount. refl) other (s.seated id other (sym (others_seats id apart) ∙ e)))
