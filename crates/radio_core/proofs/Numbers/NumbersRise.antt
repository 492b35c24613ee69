-- numbers rise among clients and among listeners, after each event too
use Rattle.std.specs.Ordering.{nat_cmp}
use Rattle.std.proofs.Common.{◌≡◌, Bool, true, false, ◌||◌, not, ℕ, ◌+◌, ◌==◌, Option, Some, None, is_some, List, [], ◌∷◌, refl, ap}
use Rattle.std.proofs.Common.{sym, subst, ◌∙◌, arith}
use Rattle.radio_core.proofs.Words.{nat_tests, by_number, Peer, Settings, Lists, Listener, Seat, Seating, is_listener, listener_of, advanced, seated, ClientState, Listens, Ended, Event, Push, TakeSeat, Forget, Outcome}
use Rattle.radio_core.proofs.Words.{client_in, Standing, Unknown, Undecided, Feeds, Answered, Shown, placed, Each, Each_each, Each_kept, Each_placed, Client, client_of, undecided_client, Relay, relay_of, risen}
use Rattle.radio_core.proofs.Words.{session_of, Cause, changed, session_ended, block_received, ticked, first_seat, IsSound, shown_for, outcome, world_after, Way, Misplaced, IsFinished, IsDenied, IsRefused, IsAdmitted}
use Rattle.radio_core.proofs.Words.{Begins, ComesUp, Receives, SetsTitle, TakesSeat, HandsOut, Ends, EndsAndLeaves, Leaves, GoesDown, Obeys, Shows, HasPassed, Ticks, World, opening, standing_of, standing_of_found}
use Rattle.radio_core.proofs.Words.{standing_of_client, standing_seated, standing_of_listener, IsRising, IsFree, has, without, placed_rising, placed_free, kept_rising, kept_free, taken_free, numbers_updated}
use Rattle.radio_core.proofs.Words.{numbers_placed, numbers_without, number_found, number_free, way_of, listener_seated, raised, numbers_hearing}
use Rattle.radio_seats_rows.specs.declared.seat.Seating.TheVariants.{Sits as HasSeat, Finished as HasFinished}
use Rattle.radio_parts_station.specs.declared.clients.ClientState.TheVariants.{Undecided as IsNew, Feeds as IsSource, Answered as HasHisAnswer}
use Rattle.radio_core.proofs.Clients.CalledHome.{turns_up, just_raised, sound_just_raised, stands_called}
use Rattle.radio_core.proofs.Clients.Effects.{IsSwept, GoesOnAs, IsOut, HasDone, tick_swept, obeyed_swept, his_event}
use Rattle.radio_core.proofs.Clients.Fates.{Fate, GoesOn, IsEnded, HasStopped, IsMoved, HasEnded, Nobody}
use Rattle.radio_core.proofs.Clients.Obeyed.{is_answered}
use Rattle.radio_core.proofs.Sound.SoundEnds.{turns_ended}
use Rattle.radio_core.proofs.Sound.SoundRuns.{grown_world, NoMove, lag_fates}
use Rattle.radio_core.proofs.Clients.Standings.{Turns, IsThere, asks, no_client_there, no_relay_there, turns_answered, turns_sitting, turns_forgotten, turns_admitted, turns_raised, stays_given}
use Rattle.radio_core.proofs.Clients.Standings.{stays_hearing}
use Rattle.radio_core.proofs.Numbers.NumbersStay.{number_of, relay_number, row_of, ids, relay_ids, rows, AreTheSame, same_called, same_state, same_obeyed, same_over_rows, same_ticked, same_begun, same_received}

-- it has not asked for anything yet, if it is there at all
abbrev pub IsYetToAsk : Standing → Type 0
IsYetToAsk Unknown = Unit {0}
IsYetToAsk (Undecided peer) = Unit {0}
IsYetToAsk standing = ⊥

-- these numbers are none of those, nor of the others
abbrev pub AreAlone : List ℕ → List ℕ → List ℕ → Type 0
AreAlone relays clients listeners = Each (λ n. IsFree n clients × IsFree n listeners) relays

same_alone : {a b c x y z : List ℕ} → x ≡ a → y ≡ b → z ≡ c → AreAlone a b c → AreAlone x y z
same_alone {a} {b} {c} {x} {y} {z} ea eb ec alone =
    subst (λ (l : List ℕ). AreAlone l y z) (sym ea) (subst (λ (l : List ℕ). AreAlone a l z) (sym eb) (subst (λ (l : List ℕ). AreAlone a b l) (sym ec) alone))

-- where of each of these something holds, and something else too, both do
both_hold : (P Q : ℕ → Type 0) (xs : List ℕ) → Each P xs → Each Q xs → Each (λ n. P n × Q n) xs
both_hold P Q [] p q = tt
both_hold P Q (x ∷ xs) p q = ((p.0, q.0), both_hold P Q xs p.1 q.1)

-- one that is among some numbers is not one that is not among them
apart_from_those : (id n : ℕ) (xs : List ℕ) → has id xs ≡ true → IsFree n xs → (id == n) ≡ false
apart_from_those id n [] there free = cc
apart_from_those id n (x ∷ xs) there free = by_test (λ later. apart_from_those id n xs later free.1) (x == id) refl there where
  by_test : (has id xs ≡ true → (id == n) ≡ false) → (b : Bool) → (x == id) ≡ b → (b || has id xs) ≡ true → (id == n) ≡ false
  by_test rest true e later = let apart = free.0 in grind (arith, nat_tests)
  by_test rest false e later = rest later

-- numbers rise in each table, who has not asked for anything is no listener, and a relay is neither a client nor a listener
pub record AreInOrder (w : World) : Type 0 where
  pub clients : IsRising (ids w)
  pub relays : IsRising (relay_ids w)
  pub seats : IsRising (rows w)
  pub fresh : (id : ℕ) → IsYetToAsk (standing_of w id) → IsFree id (rows w)
  pub alone : AreAlone (relay_ids w) (ids w) (rows w)

-- one client has another standing from now on, and is not yet to ask
turned : (w later : World) (him : ℕ) (now : Standing) → Turns w later him now → (IsYetToAsk now → ⊥)
    → ((id : ℕ) → IsYetToAsk (standing_of w id) → IsFree id (rows later)) → (id : ℕ) → IsYetToAsk (standing_of later id) → IsFree id (rows later)
turned w later him now t never before id yet =
    by_number him id
    (λ same. absurd (never (subst IsYetToAsk (ap (standing_of later) (sym same) ∙ t.his) yet)))
    (λ other. before id (subst IsYetToAsk (t.others id other) yet))

-- or it is none of the listeners then
turned_free : (w later : World) (him : ℕ) (now : Standing) → Turns w later him now → IsFree him (rows later)
    → ((id : ℕ) → IsYetToAsk (standing_of w id) → IsFree id (rows later)) → (id : ℕ) → IsYetToAsk (standing_of later id) → IsFree id (rows later)
turned_free w later him now t none before id yet =
    by_number him id
    (λ same. subst (λ n. IsFree n (rows later)) same none)
    (λ other. before id (subst IsYetToAsk (t.others id other) yet))

-- whoever has yet to ask does so whoever listens
no_yet_seating : (seating : Seating) → IsYetToAsk (standing_seated seating) → ⊥
no_yet_seating (HasSeat seat) asks = asks
no_yet_seating (HasFinished rule mount) asks = asks

no_yet_listener : (listener : Option Listener) → IsYetToAsk (standing_of_listener listener) → ⊥
no_yet_listener None asks = asks
no_yet_listener (Some listener) asks = no_yet_seating listener.seating asks

yet_by_state : (listener other : Option Listener) (peer : Peer) (state : ClientState) → IsYetToAsk (standing_of_client listener peer state)
    → IsYetToAsk (standing_of_client other peer state)
yet_by_state listener other peer IsNew asks = tt
yet_by_state listener other peer (IsSource mount) asks = absurd asks
yet_by_state listener other peer Listens asks = absurd (no_yet_listener listener asks)
yet_by_state listener other peer HasHisAnswer asks = absurd asks
yet_by_state listener other peer (Ended rule) asks = absurd asks

yet_whoever_sits : (relay : Option Relay) (listener other : Option Listener) (client : Option Client) → IsYetToAsk (standing_of_found relay listener client)
    → IsYetToAsk (standing_of_found relay other client)
yet_whoever_sits relay listener other None asks = asks
yet_whoever_sits relay listener other (Some client) asks = yet_by_state listener other client.peer client.state asks

module _ (w : World) (inv : AreInOrder w) where
  -- the same are there, and who has yet to ask then had yet to ask before
  order_still : (later : World) → AreTheSame w later → ((id : ℕ) → IsYetToAsk (standing_of later id) → IsYetToAsk (standing_of w id)) → AreInOrder later
  order_still later same yet = record {
    clients = subst IsRising (sym same.same_ids) inv.clients;
    relays = subst IsRising (sym same.same_relays) inv.relays;
    seats = subst IsRising (sym same.same_rows) inv.seats;
    fresh = λ id asks. subst (IsFree id) (sym same.same_rows) (inv.fresh id (yet id asks));
    alone = same_alone same.same_relays same.same_ids same.same_rows inv.alone;
  }

  order_turned : (later : World) (him : ℕ) (now : Standing) → AreTheSame w later → Turns w later him now → (IsYetToAsk now → ⊥) → AreInOrder later
  order_turned later him now same t never = record {
    clients = subst IsRising (sym same.same_ids) inv.clients;
    relays = subst IsRising (sym same.same_relays) inv.relays;
    seats = subst IsRising (sym same.same_rows) inv.seats;
    fresh = turned w later him now t never (λ id asks. subst (IsFree id) (sym same.same_rows) (inv.fresh id asks));
    alone = same_alone same.same_relays same.same_ids same.same_rows inv.alone;
  }

  swept_yet : (later : World) (event : Event) (id : ℕ) → (client_in event ≡ Some id → ⊥) → IsSwept w later event id → IsYetToAsk (standing_of later id) → IsYetToAsk (standing_of w id)
  swept_yet later event id not_own (GoesOnAs same) asks = subst IsYetToAsk same asks
  swept_yet later event id not_own (IsOut rule cause out none) asks = absurd (subst IsYetToAsk out asks)
  swept_yet later event id not_own (HasDone own acted) asks = absurd (not_own own)

  -- a session has ended
  ended_yet : (mount : List ℕ) (id : ℕ) → IsYetToAsk (standing_of (session_ended w mount) id) → IsYetToAsk (standing_of w id)
  ended_yet mount id asks = yet_whoever_sits (relay_of w.station.relays id) (listener_of (session_ended w mount).seats id) (listener_of w.seats id) (client_of w.station.clients id) asks

  same_over : (mount : List ℕ) → AreTheSame w (session_ended w mount)
  same_over mount = record { same_ids = refl; same_relays = refl; same_rows = same_over_rows w mount; same_last = refl }

  order_over : (mount : List ℕ) → AreInOrder (session_ended w mount)
  order_over mount = order_still (session_ended w mount) (same_over mount) (ended_yet mount)

-- a client leaves, or a relay goes down
order_left : (w : World) (inv : AreInOrder w) (him : ℕ) → AreInOrder (changed w (Forget him))
order_left w inv him =
    let later = changed w (Forget him) in
    let now_ids = numbers_without number_of him w.station.clients in
    let now_relays = numbers_without relay_number him w.station.relays in
    let now_rows = numbers_without row_of him w.seats in
    record {
      clients = subst IsRising (sym now_ids) (kept_rising him (ids w) inv.clients);
      relays = subst IsRising (sym now_relays) (kept_rising him (relay_ids w) inv.relays);
      seats = subst IsRising (sym now_rows) (kept_rising him (rows w) inv.seats);
      fresh = turned_free w later him Unknown (turns_forgotten w him) (subst (IsFree him) (sym now_rows) (taken_free him (rows w)))
          (λ id asks. subst (IsFree id) (sym now_rows) (kept_free him id (rows w) (inv.fresh id asks)));
      alone = same_alone now_relays now_ids now_rows
          (Each_kept (λ n. IsFree n (ids w) × IsFree n (rows w)) (λ n. IsFree n (without him (ids w)) × IsFree n (without him (rows w))) (λ n. not (n == him))
          (λ n free stays. (kept_free him n (ids w) free.0, kept_free him n (rows w) free.1)) (relay_ids w) inv.alone);
    }

-- a listener sits down
order_seated : (w : World) (inv : AreInOrder w) (id : ℕ) (seat : Seat) → IsThere w id → AreInOrder (changed w (TakeSeat id seat))
order_seated w inv id seat there =
    let later = changed w (TakeSeat id seat) in
    let now_rows = numbers_placed row_of (seated id seat) w.seats in
    let t = turns_sitting w id seat there in
    let is_client : has id (ids w) ≡ true = sym (number_found number_of id w.station.clients) ∙ ap is_some there.1 in
    record {
      clients = subst IsRising (sym (same_state id Listens w.station.clients)) inv.clients;
      relays = inv.relays;
      seats = subst IsRising (sym now_rows) (placed_rising id (rows w) inv.seats);
      fresh = λ him asks.
          by_number id him
          (λ same. absurd (subst IsYetToAsk (ap (standing_of later) (sym same) ∙ t.his) asks))
          (λ other. subst (IsFree him) (sym now_rows) (placed_free id him (rows w) other (inv.fresh him (subst IsYetToAsk (t.others him other) asks))));
      alone = same_alone refl (same_state id Listens w.station.clients) now_rows
          (Each_each (λ n. IsFree n (ids w) × IsFree n (rows w)) (λ n. IsFree n (ids w) × IsFree n (placed nat_cmp id (rows w)))
          (λ n free. (free.0, placed_free id n (rows w) (apart_from_those id n (ids w) is_client free.0) free.1)) (relay_ids w) inv.alone);
    }

module _ (w : World) (s : IsSound w) (inv : AreInOrder w) where
  -- a relay comes up
  order_risen : (mount : List ℕ) (shown : Shown) → AreInOrder (record w { station = raised w.station (w.station.last_id + 1) mount shown })
  order_risen mount shown =
      let id = w.station.last_id + 1 in
      let unknown : standing_of w id ≡ Unknown = s.numbered id (omega arith) in
      let now = numbers_placed relay_number (risen id mount) w.station.relays in
      record {
        clients = inv.clients;
        relays = subst IsRising (sym now) (placed_rising id (relay_ids w) inv.relays);
        seats = inv.seats;
        fresh = turned w (record w { station = raised w.station id mount shown }) id (Feeds mount) (turns_raised w id mount shown unknown) (λ h. h) (λ him asks. inv.fresh him asks);
        alone = same_alone now refl refl
            (Each_placed (λ n. IsFree n (ids w) × IsFree n (rows w)) nat_cmp id (relay_ids w)
            (number_free number_of id w.station.clients (no_client_there w id unknown), inv.fresh id (subst IsYetToAsk (sym unknown) tt)) inv.alone);
      }

  order_raised : (mount : List ℕ) (shown : Shown) (free : session_of w.station.live mount ≡ None) → AreInOrder (just_raised w s mount shown free)
  order_raised mount shown free =
      let id = w.station.last_id + 1 in
      order_still (record w { station = raised w.station id mount shown }) (order_risen mount shown) (just_raised w s mount shown free)
      (record { same_ids = refl; same_relays = refl; same_rows = numbers_hearing mount id w.seats; same_last = refl })
      (λ him asks. subst IsYetToAsk (stays_given (raised w.station id mount shown) w.seats mount id him) asks)

  order_by : (event : Event) (o : Outcome) → Way w event o → AreInOrder (changed w o.change)
  order_by event o (Misplaced _) = inv
  order_by event o (IsFinished _ him by its told) = inv
  order_by event o (IsDenied _ by v nobody) = inv
  order_by event o (IsRefused _ him by v its undecided) =
      let at = undecided.1 in
      order_turned w inv (changed w o.change) him Answered
      (record { same_ids = same_state him HasHisAnswer w.station.clients; same_relays = refl; same_rows = refl; same_last = refl })
      (turns_answered w him (asks w him undecided.0 undecided.1)) (λ h. h)
  order_by event o (IsAdmitted peer allowed) =
      let id = w.station.last_id + 1 in
      let new = undecided_client id peer w.station.time in
      let none = inv.fresh id (subst IsYetToAsk (sym (s.numbered id (omega arith))) tt) in
      record {
        clients = subst IsRising (sym (numbers_placed number_of new w.station.clients)) (placed_rising id (ids w) inv.clients);
        relays = inv.relays;
        seats = inv.seats;
        fresh = turned_free w (changed w o.change) id (Undecided peer) (turns_admitted w id peer) none (λ him asks. inv.fresh him asks);
        alone = same_alone refl (numbers_placed number_of new w.station.clients) refl
            (Each_each (λ n. ((n == id) ≡ false) × (IsFree n (ids w) × IsFree n (rows w))) (λ n. IsFree n (placed nat_cmp id (ids w)) × IsFree n (rows w))
            (λ n both. (placed_free id n (ids w) (let apart = both.0 in grind (arith, nat_tests)) both.1.0, both.1.1)) (relay_ids w)
            (both_hold (λ n. (n == id) ≡ false) (λ n. IsFree n (ids w) × IsFree n (rows w)) (relay_ids w) (number_free relay_number id w.station.relays (no_relay_there w id (s.numbered id (omega arith)))) inv.alone));
      }
  order_by event o (Begins asked undecided none allowed) =
      let at = undecided.1 in
      order_turned w inv (changed w o.change) asked.id (Feeds asked.mount)
      (same_begun w asked.id asked.mount (shown_for w.station asked.mount asked.shown))
      (turns_up w s asked.id asked.mount (shown_for w.station asked.mount asked.shown) undecided.0 undecided.1 none) (λ h. h)
  order_by event o (ComesUp mount shown free allowed) =
      let on = shown_for w.station mount shown in
      order_still (just_raised w s mount on free) (order_raised mount on free) (changed w o.change) (same_called (just_raised w s mount on free) mount)
      (λ id asks. subst IsYetToAsk
      (stands_called (just_raised w s mount on free) (sound_just_raised w s mount on free) mount (λ him session. Unit {0}) (λ calls him session turn. tt) id) asks)
  order_by event o (Receives him mount block feeding) =
      order_still w inv (changed w o.change) (same_received w mount block)
      (λ id. lags_yet id ((lag_fates w s mount block him feeding).fate id)) where
        lags_yet : (id : ℕ) → Fate (Cause w (block_received w mount block) (Push him block)) NoMove Nobody HasEnded (grown_world w mount block) (block_received w mount block) id
            → IsYetToAsk (standing_of (block_received w mount block) id) → IsYetToAsk (standing_of w id)
        lags_yet id (GoesOn same seat feeds sits) asks = subst IsYetToAsk same asks
        lags_yet id (IsEnded rule cause active ended none over) asks = absurd (subst IsYetToAsk ended asks)
        lags_yet id (HasStopped other why feeds done none over) asks = absurd why
        lags_yet id (IsMoved old session carries left had has_it same live opens) asks = absurd carries
  order_by event o (Shows _ asker peer text its undecided what) =
      let at = undecided in
      order_turned w inv (changed w o.change) asker Answered
      (record { same_ids = same_state asker HasHisAnswer w.station.clients; same_relays = refl; same_rows = refl; same_last = refl })
      (turns_answered w asker (asks w asker peer undecided)) (λ h. h)
  order_by event o (Obeys _ command c) =
      order_still w inv (changed w o.change) (same_obeyed w c.asked.id command)
      (λ id asks.
      by_number c.asked.id id
      (λ same. absurd (subst IsYetToAsk (ap (standing_of (changed w o.change)) (sym same) ∙ is_answered w s event command c) asks))
      (λ apart. swept_yet w inv (changed w o.change) event id
      (λ his.
      let both : Some c.asked.id ≡ Some id = sym (his_event w s event command c) ∙ his in
      let one : c.asked.id ≡ id = cc in
      let itself : (c.asked.id == id) ≡ true = grind (arith, nat_tests) in
      cc)
      (obeyed_swept w s event command c id) asks))
  order_by event o (HasPassed ms e) = inv
  order_by event o (Ticks ms e) =
      order_still w inv (changed w o.change) (same_ticked w ms)
      (λ id. swept_yet w inv (ticked w ms) event id (λ own. cc) (tick_swept w s ms id))
  order_by event o (SetsTitle him mount text feeding) = record { clients = inv.clients; relays = inv.relays; seats = inv.seats; fresh = inv.fresh; alone = inv.alone }
  order_by event o (TakesSeat asked peer session undecided lands live allowed) =
      order_seated w inv asked.id (first_seat w.station asked peer session) (asks w asked.id peer undecided)
  order_by event o (HandsOut him room seat session sits has_one live) =
      let listener = listener_seated w.seats him seat has_one in
      order_still w inv (changed w o.change)
      (record { same_ids = refl; same_relays = refl; same_rows = numbers_updated row_of (is_listener him) (advanced _) (λ x. refl) w.seats; same_last = refl })
      (λ id asks. subst IsYetToAsk (stays_hearing w him _ listener.0 listener.1 id) asks)
  order_by event o (Ends him mount feeding no_relay) =
      order_turned (session_ended w mount) (order_over w inv mount) (changed w o.change) him Answered
      (record { same_ids = same_state him HasHisAnswer w.station.clients; same_relays = refl; same_rows = refl; same_last = refl }) (turns_ended w s him mount feeding no_relay) (λ h. h)
  order_by event o (EndsAndLeaves _ him mount closes feeding) = order_left (session_ended w mount) (order_over w inv mount) him
  order_by event o (Leaves him no_relay other) = order_left w inv him
  order_by event o (GoesDown him rule relay told) = order_left w inv him

  pub order_after : (event : Event) → AreInOrder (world_after w event)
  unfolding world_after
  order_after event = order_by event (outcome w event) (way_of w event)

pub order_opening : (settings : Settings) (lists : Lists) → AreInOrder (opening settings lists)
order_opening settings lists = record { clients = tt; relays = tt; seats = tt; fresh = λ id asks. tt; alone = tt }
