-- the laws of access and of admission
use Rattle.std.proofs.Common.{◌≡◌, inl, inr, Bool, true, false, ℕ, ◌-◌, ◌<◌, ◌≤◌, ◌==◌, Option, Some, None, List, [], ◌∷◌, refl, ap, sym, subst, ◌∙◌, arith}
use Rattle.radio_laws.proofs.Words.{find, nat_le, unwrap_or, min, nat_tests, Each, Has, find_here, find_later, Event, Outcome, Drawn, Seated, World, changed, StationState, options_for, first_seat, burst_of, interval_for}
use Rattle.radio_laws.proofs.Words.{seat_of, seat_in, Session, AreRising, WholeStream, end_of, burst_start, IsSound, outcome, reply_to, world_after, has_sat_down, and_parts, lets_in, lands_where_he_fits, sight_of}
use Rattle.radio_laws.proofs.Words.{burst_within}
use Rattle.radio_events.specs.declared.reply.StreamHead.{StreamHead}
use Rattle.radio_laws.specs.Access.{IsHis, AccessIsKept}
use Rattle.radio_laws.specs.Admission.{IsBlockStart, IsEarliestStart, IsSeated, BeginsAtABlock}
use Rattle.radio_laws.proofs.Seats.WalkLemmas.{lands_on_his_way}
use Rattle.radio_laws.proofs.Seats.LimitLemmas.{Within, sits_as, sent_as}
use Rattle.radio_laws.proofs.Seats.ListsLemmas.{KeepsLists}
use Rattle.radio_laws.proofs.Denials.GrantedLemmas.{Granted, AdmitsClient, AdmitsSource, AdmitsRelay, AdmitsListener, HandsData, TellsText, GrantsNothing, grants, granted}
use Rattle.radio_laws.proofs.Seats.HeardLaws.{rising_heard}
use Rattle.radio_laws.proofs.Seats.OnDemandLemmas.{awaited_there}

module _ (w : World) (s : IsSound w) (k : KeepsLists w) (l : Within w) where
  his_by : (event : Event) (o : Outcome) → Granted w event o → (bytes : List ℕ) (title : Option (List ℕ)) → o.reply ≡ Drawn bytes title
      → IsHis w event bytes title
  his_by event o (HandsData id room seat session change asked sits has live) bytes title d =
      let old = s.seated id seat has in
      let let_in = k.seated id seat has in
      record {
        id = id;
        room = room;
        asked = asked;
        seat = seat;
        session = session;
        sits = sits;
        has_the_seat = has;
        is_heard = live;
        is_data = sym (drawn_bytes d);
        is_title = sym (drawn_title d);
        is_open = record {
          session = old.session;
          is_heard = old.is_heard;
          his_session = old.his_session;
          passes_lists = let_in.passing;
          is_let_in = let_in.accepted;
          is_alone = λ user other once his theirs.
              l.none_twice seat.mount user other id once (sits_as w other seat.mount user theirs) (seat, has, refl, sent_as user seat.pair his);
        };
      } where
        drawn_bytes : {a b : List ℕ} {t u : Option (List ℕ)} → Drawn a t ≡ Drawn b u → a ≡ b
        drawn_bytes e = cc

        drawn_title : {a b : List ℕ} {t u : Option (List ℕ)} → Drawn a t ≡ Drawn b u → t ≡ u
        drawn_title e = cc
  his_by event o (AdmitsClient peer change is allowed) bytes title d = cc
  his_by event o (AdmitsSource asked change is allowed) bytes title d = cc
  his_by event o (AdmitsRelay mount shown change is allowed) bytes title d = cc
  his_by event o (AdmitsListener asked peer session is undecided lands live) bytes title d = cc
  his_by event o (TellsText text change why) bytes title d = cc
  his_by event o (GrantsNothing _ none idle) bytes title d = let some : grants o.reply ≡ true = ap grants d in cc

  pub access_holds : (event : Event) → AccessIsKept w event
  unfolding reply_to
  access_holds event = his_by event (outcome w event) (granted w event)

-- the first of rising places that is near enough to the end is the least such place
module _ (last burst : ℕ) where
  abbrev first : ℕ → Bool
  first start = nat_le (last - start) burst

  record IsFirst (starts : List ℕ) (start : ℕ) : Type 0 where
    pub there : Has start starts
    pub near : last - start ≤ burst
    pub least : (other : ℕ) → Has other starts → last - other ≤ burst → start ≤ other

  from_each : (place : ℕ) (starts : List ℕ) (other : ℕ) → Each (λ next. place ≤ next) starts → Has other starts → place ≤ other
  from_each place [] other all has = absurd has
  from_each place (next ∷ starts) other all (inl same) = omega arith
  from_each place (next ∷ starts) other all (inr has) = from_each place starts other all.1 has

  first_at : (place : ℕ) (starts : List ℕ) (start : ℕ) (b : Bool) → first place ≡ b → AreRising (place ∷ starts) last
      → (find first starts ≡ Some start → IsFirst starts start) → find first (place ∷ starts) ≡ Some start → IsFirst (place ∷ starts) start
  first_at place starts start true e rising later h =
      let here : find first (place ∷ starts) ≡ Some place = find_here first place starts e in
      let same : place ≡ start = cc in
      subst (λ (x : ℕ). IsFirst (place ∷ starts) x) same (record {
        there = inl refl;
        near = grind (arith, nat_tests);
        least = λ other has near. either other has;
      }) where
        either : (other : ℕ) → Has other (place ∷ starts) → place ≤ other
        either other (inl same) = omega arith
        either other (inr has) = from_each place starts other rising.1 has
  first_at place starts start false e rising later h =
      let rest = later (sym (find_later first place starts e) ∙ h) in
      record { there = inr rest.there; near = rest.near; least = λ other has near. either other has near } where
        far : burst < last - place
        far = grind (arith, nat_tests)

        rest_least : (other : ℕ) → Has other starts → last - other ≤ burst → start ≤ other
        rest_least = (later (sym (find_later first place starts e) ∙ h)).least

        either : (other : ℕ) → Has other (place ∷ starts) → last - other ≤ burst → start ≤ other
        either other (inl same) near = absurd (omega (arith, far))
        either other (inr has) near = rest_least other has near

  first_found : (starts : List ℕ) (start : ℕ) → AreRising starts last → find first starts ≡ Some start → IsFirst starts start
  first_found [] start rising h = cc
  first_found (place ∷ starts) start rising h = first_at place starts start (first place) refl rising (first_found starts start rising.2) h

  none_at : (place : ℕ) (starts : List ℕ) (b : Bool) → first place ≡ b → find first (place ∷ starts) ≡ None
      → (find first starts ≡ None) × (burst < last - place)
  none_at place starts true e h = let here : find first (place ∷ starts) ≡ Some place = find_here first place starts e in cc
  none_at place starts false e h = (sym (find_later first place starts e) ∙ h, grind (arith, nat_tests))

  none_near : (starts : List ℕ) → find first starts ≡ None → (other : ℕ) → Has other starts → last - other ≤ burst → ⊥
  none_near [] h other has near = has
  none_near (place ∷ starts) h other (inl same) near = let far = (none_at place starts (first place) refl h).1 in omega arith
  none_near (place ∷ starts) h other (inr has) near = none_near starts (none_at place starts (first place) refl h).0 other has near

-- the place is the earliest block start that is at most so many bytes before the end
record StartsWithin (stream : WholeStream) (burst place : ℕ) : Type 0 where
  pub at_a_block : IsBlockStart stream place
  pub in_the_burst : end_of stream - place ≤ burst
  pub earliest : (other : ℕ) → IsBlockStart stream other → end_of stream - other ≤ burst → place ≤ other

earliest_start : (session : Session) (burst : ℕ) → AreRising session.stream.starts (end_of session.stream)
    → StartsWithin session.stream burst (burst_start session.stream burst)
earliest_start session burst rising = by_found (find (first last burst) session.stream.starts) refl where
  last : ℕ
  last = end_of session.stream

  by_found : (found : Option ℕ) → find (first (end_of session.stream) burst) session.stream.starts ≡ found
      → StartsWithin session.stream burst (unwrap_or found (end_of session.stream))
  by_found None e = record { at_a_block = inr refl; in_the_burst = omega arith; earliest = λ other at near. either other at near } where
    either : (other : ℕ) → IsBlockStart session.stream other → end_of session.stream - other ≤ burst → end_of session.stream ≤ other
    either other (inl has) near = absurd (none_near (end_of session.stream) burst session.stream.starts e other has near)
    either other (inr same) near = omega arith
  by_found (Some start) e =
      let found = first_found (end_of session.stream) burst session.stream.starts start rising e in
      record { at_a_block = inl found.there; in_the_burst = found.near; earliest = λ other at near. either other at near } where
        low : start ≤ end_of session.stream
        low = subst (λ (x : ℕ). x ≤ end_of session.stream) (ap (λ (o : Option ℕ). unwrap_or o (end_of session.stream)) e) (burst_within session.stream burst rising)

        either : (other : ℕ) → IsBlockStart session.stream other → end_of session.stream - other ≤ burst → start ≤ other
        either other (inl has) near = (first_found (end_of session.stream) burst session.stream.starts start rising e).least other has near
        either other (inr same) near = omega (arith, low)

-- within the smaller of two is within both
within_both : (stream : WholeStream) (burst queue place : ℕ) → StartsWithin stream (min burst queue) place → IsEarliestStart stream burst queue place
within_both stream burst queue place within = record {
  at_a_block = within.at_a_block;
  in_the_burst = omega (arith, within.in_the_burst);
  in_the_queue = omega (arith, within.in_the_burst);
  earliest = λ other at near also. within.earliest other at (omega (arith, near, also));
}

-- the interval is that of the mount, if the listener asked for metadata
interval_asked : (station : StationState) (mount : List ℕ) (wants : Bool) → wants ≡ true
    → interval_for station mount wants ≡ Some (options_for station.settings mount).stream.mp3_metadata_interval
interval_asked station mount wants e = rw e refl

no_interval : (station : StationState) (mount : List ℕ) (wants : Bool) → wants ≡ false → interval_for station mount wants ≡ None
no_interval station mount wants e = rw e refl

module _ (w : World) (s : IsSound w) where
  seated_by : (event : Event) (o : Outcome) → Granted w event o → (interval : Option ℕ) (head : StreamHead) → o.reply ≡ Seated interval head
      → ((id : ℕ) → seat_of (changed w o.change).seats id ≡ seat_of (world_after w event).seats id) → IsSeated w event interval head
  seated_by event o (AdmitsListener asked peer session is undecided lands live) interval head d after =
      let itself : (asked.id == asked.id) ≡ true = grind (arith, nat_tests) in
      let seat = first_seat w.station asked peer session in
      let here : interval ≡ interval_for w.station asked.mount asked.wants_metadata = sym (seated_interval d) in
      let way = lands_on_his_way w asked session.mount lands in
      let fits = lands_where_he_fits (sight_of w.station) w.seats asked.pair asked.mount session.mount lands in
      record {
        asked = asked;
        listens = is;
        session = session;
        is_heard = live;
        is_awaited = awaited_there w.station session.mount session live;
        shows = ap (λ (h : StreamHead). h.shown) (sym (seated_head d));
        readers = ap (λ (h : StreamHead). h.allow_origin) (sym (seated_head d));
        seat = seat;
        has_the_seat = sym (after asked.id) ∙ ap seat_in (has_sat_down w.seats asked.id seat itself);
        steps = way.0;
        not_too_far = way.1;
        on_his_way = way.2;
        lets_him_in = (and_parts (lets_in w.station.lists session.mount asked.pair) _ fits.is_open).0;
        at_the_mount = refl;
        his_home = refl;
        in_the_session = refl;
        his_address = undecided;
        his_pair = refl;
        from_now = refl;
        his_interval = sym here;
        with_metadata = λ wants. here ∙ interval_asked w.station asked.mount asked.wants_metadata wants;
        without_metadata = λ wants. here ∙ no_interval w.station asked.mount asked.wants_metadata wants;
        starts = within_both session.stream (options_for w.station.settings session.mount).stream.burst_size w.station.settings.limits.queue_size seat.place
            (earliest_start session (burst_of w.station session.mount) (rising_heard w s session.mount session live));
      } where
        seated_head : {a b : Option ℕ} {t u : StreamHead} → Seated a t ≡ Seated b u → t ≡ u
        seated_head e = cc

        seated_interval : {a b : Option ℕ} {t u : StreamHead} → Seated a t ≡ Seated b u → a ≡ b
        seated_interval e = cc
  seated_by event o (AdmitsClient peer change is allowed) interval head d after = cc
  seated_by event o (AdmitsSource asked change is allowed) interval head d after = cc
  seated_by event o (AdmitsRelay mount shown change is allowed) interval head d after = cc
  seated_by event o (HandsData id room seat session change is sits has live) interval head d after = cc
  seated_by event o (TellsText text change why) interval head d after = cc
  seated_by event o (GrantsNothing _ none idle) interval head d after = let some : grants o.reply ≡ true = ap grants d in cc

  pub admission_holds : (event : Event) → BeginsAtABlock w event
  unfolding reply_to world_after
  admission_holds event interval head d = seated_by event (outcome w event) (granted w event) interval head d (λ id. refl)
