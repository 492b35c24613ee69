-- the law of totals
use Rattle.std.proofs.Common.{◌≡◌, Bool, true, false, ◌||◌, ◌==◌, ℕ, ◌+◌, not, is_some, List, [], ◌∷◌, length, refl, ap}
use Rattle.std.proofs.Common.{sym, subst, ◌∙◌, arith}
use Rattle.radio_core.proofs.Words.{if◌then◌else◌, map, eqb-true, Each, length-map, Settings, Lists, is_listener, listener_of, advanced, seated, Listens, Event, Leave, RelayDown, Outcome, Reply, Noted, Stray, Unknown}
use Rattle.radio_core.proofs.Words.{Feeds, Nothing, EndAndLeave, Forget, Client, client_of, undecided_client, without_client, Relay, risen, without_relay, Closes, OfClient, OfRelay, says, unless_relayed, changed}
use Rattle.radio_core.proofs.Words.{session_ended, first_seat, world_after_all, run_after, IsSound, shown_for, outcome, reply_to, world_after, Way, Misplaced, IsFinished, IsDenied, IsRefused, IsAdmitted, Begins, ComesUp}
use Rattle.radio_core.proofs.Words.{Receives, SetsTitle, TakesSeat, HandsOut, Ends, EndsAndLeaves, Leaves, GoesDown, Obeys, Shows, HasPassed, Ticks, World, opening, standing_of, has_relay, IsFree, has, without}
use Rattle.radio_core.proofs.Words.{placed_length, one_less, numbers_updated, numbers_placed, numbers_without, number_found, number_free, way_of, numbers_hearing}
use Rattle.std.proofs.lemmas.List.Filters.{length-filter_both}
use Rattle.radio_parts_station.specs.declared.clients.ClientState.TheVariants.{Answered as HasHisAnswer}
use Rattle.radio_parts.specs.Leave.{leaves_from}
use Rattle.radio_core.specs.Totals.{numbers_given, arrivals, relays_up, relays_down, relays_there, departures, seatings, listeners_leaving, has_seat, clients_there, seats_there, seats_lost, AddsUp}
use Rattle.radio_core.proofs.Sound.SoundRuns.{sound_after, sound_opening}
use Rattle.radio_core.proofs.Clients.CalledHome.{just_raised}
use Rattle.radio_core.proofs.Clients.Standings.{is_client_there, no_client_there, no_relay_there}
use Rattle.radio_core.proofs.Numbers.NumbersStay.{number_of, relay_number, row_of, ids, relay_ids, rows, AreTheSame, same_called, nobody_else, same_state, same_obeyed, same_over_rows, same_ticked, same_begun, same_received}
use Rattle.radio_core.proofs.Numbers.NumbersRise.{IsYetToAsk, AreInOrder, order_after, order_opening}

-- what came and went, and how many are there then
record Adds (w later : World) (event : Event) (reply : Reply) : Type 0 where
  numbers : later.station.last_id ≡ w.station.last_id + numbers_given reply
  clients : clients_there later + departures reply event ≡ clients_there w + arrivals reply event
  relays : relays_there later + relays_down reply event ≡ relays_there w + relays_up reply event
  seats : seats_there later + seats_lost later + listeners_leaving w reply event ≡ seats_there w + seats_lost w + seatings reply

-- what holds of each of some numbers holds of one of them
its_own : (P : ℕ → Type 0) (id : ℕ) (xs : List ℕ) → has id xs ≡ true → Each P xs → P id
its_own P id [] there all = cc
its_own P id (x ∷ xs) there all = by_test (λ later. its_own P id xs later all.1) (x == id) refl there where
  by_test : (has id xs ≡ true → P id) → (b : Bool) → (x == id) ≡ b → (b || has id xs) ≡ true → P id
  by_test rest true e later = let same : x ≡ id = eqb-true x id e in subst P same all.0
  by_test rest false e later = rest later

has_not : (id : ℕ) (xs : List ℕ) → IsFree id xs → has id xs ≡ false
has_not id [] free = refl
has_not id (x ∷ xs) free = rw free.0 (has_not id xs free.1)

module _ (w : World) (s : IsSound w) (inv : AreInOrder w) where
  -- how many of each are left where one number goes
  client_leaves : (him : ℕ) → length (without him (ids w)) + (if is_some (client_of w.station.clients him) then 1 else 0) ≡ length (ids w)
  client_leaves him =
      omega (arith, one_less him (ids w) inv.clients, ap {B = ℕ} (λ (b : Bool). if b then 1 else 0) (number_found number_of him w.station.clients))

  relay_leaves : (him : ℕ) → length (without him (relay_ids w)) + (if has_relay w him then 1 else 0) ≡ length (relay_ids w)
  relay_leaves him =
      omega (arith, one_less him (relay_ids w) inv.relays, ap {B = ℕ} (λ (b : Bool). if b then 1 else 0) (number_found relay_number him w.station.relays))

  listener_leaves : (him : ℕ) → length (without him (rows w)) + (if is_some (listener_of w.seats him) then 1 else 0) ≡ length (rows w)
  listener_leaves him =
      omega (arith, one_less him (rows w) inv.seats, ap {B = ℕ} (λ (b : Bool). if b then 1 else 0) (number_found row_of him w.seats))

  left_after : (him : ℕ) (mount : List ℕ) → rows (changed w (EndAndLeave him mount)) ≡ without him (rows w)
  left_after him mount = numbers_without row_of him (session_ended w mount).seats ∙ ap (without him) (same_over_rows w mount)

  -- how many are there afterwards
  module _ (later : World) (event : Event) (reply : Reply) where
    -- who sits and who has lost its seat are the listeners
    listeners : seats_there later + seats_lost later ≡ length (rows later)
    listeners = length-filter_both has_seat (λ listener. not (has_seat listener)) (λ x. refl) later.seats ∙ sym (length-map later.seats row_of)

    listeners_before : seats_there w + seats_lost w ≡ length (rows w)
    listeners_before = length-filter_both has_seat (λ listener. not (has_seat listener)) (λ x. refl) w.seats ∙ sym (length-map w.seats row_of)

    adds : later.station.last_id ≡ w.station.last_id + numbers_given reply
        → length (ids later) + departures reply event ≡ length (ids w) + arrivals reply event
        → length (relay_ids later) + relays_down reply event ≡ length (relay_ids w) + relays_up reply event
        → length (rows later) + listeners_leaving w reply event ≡ length (rows w) + seatings reply
        → Adds w later event reply
    adds last clients relays seats = record {
      numbers = last;
      clients = omega (arith, clients, length-map later.station.clients number_of, length-map w.station.clients number_of);
      relays = omega (arith, relays, length-map later.station.relays relay_number, length-map w.station.relays relay_number);
      seats = omega (arith, seats, listeners, listeners_before);
    }

    nobody_moves : AreTheSame w later → numbers_given reply ≡ 0 → arrivals reply event ≡ 0 → relays_up reply event ≡ 0 → seatings reply ≡ 0
        → departures reply event ≡ 0 → relays_down reply event ≡ 0 → listeners_leaving w reply event ≡ 0 → Adds w later event reply
    nobody_moves same given came up sat left down gone =
        adds (omega (arith, same.same_last, given)) (omega (arith, ap length same.same_ids, came, left))
        (omega (arith, ap length same.same_relays, up, down)) (omega (arith, ap length same.same_rows, sat, gone))

  -- a client who is there leaves, or a relay goes down; who listens may have been carried along before
  module _ (him : ℕ) (later : World) (last : later.station.last_id ≡ w.station.last_id) (clients : later.station.clients ≡ without_client w.station.clients him)
      (relays : later.station.relays ≡ without_relay w.station.relays him) (listeners_then : rows later ≡ without him (rows w)) where
    now_ids : length (ids later) ≡ length (without him (ids w))
    now_ids = ap (λ (xs : List Client). length (map number_of xs)) clients ∙ ap length (numbers_without number_of him w.station.clients)

    now_relays : length (relay_ids later) ≡ length (without him (relay_ids w))
    now_relays = ap (λ (xs : List Relay). length (map relay_number xs)) relays ∙ ap length (numbers_without relay_number him w.station.relays)

    abbrev one_where : Bool → ℕ
    one_where b = if b then 1 else 0

    one_if : {b : Bool} (c : Bool) → b ≡ c → one_where b ≡ one_where c
    one_if c e = ap one_where e

    client_goes : (standing_of w him ≡ Unknown → ⊥) → has_relay w him ≡ false → Adds w later (Leave him) Noted
    client_goes known no_relay =
        let there = is_client_there w him known no_relay in
        adds later (Leave him) Noted (omega (arith, last))
        (omega (arith, now_ids, client_leaves him, one_if true (ap is_some there.1)))
        (omega (arith, now_relays, relay_leaves him, one_if false no_relay))
        (omega (arith, ap length listeners_then, listener_leaves him))

    relay_goes : has_relay w him ≡ true → Adds w later (RelayDown him) Noted
    relay_goes relay =
        let is_one : has him (relay_ids w) ≡ true = sym (number_found relay_number him w.station.relays) ∙ relay in
        let free = its_own (λ n. IsFree n (ids w) × IsFree n (rows w)) him (relay_ids w) is_one inv.alone in
        adds later (RelayDown him) Noted (omega (arith, last))
        (omega (arith, now_ids, client_leaves him, one_if false (number_found number_of him w.station.clients ∙ has_not him (ids w) free.0)))
        (omega (arith, now_relays, relay_leaves him, one_if true relay))
        (omega (arith, ap length listeners_then, listener_leaves him, one_if false (number_found row_of him w.seats ∙ has_not him (rows w) free.1)))

  ends_and_leaves : (event : Event) (him : ℕ) (mount : List ℕ) → Closes w him event → standing_of w him ≡ Feeds mount
      → Adds w (changed w (EndAndLeave him mount)) event Noted
  ends_and_leaves event him mount (OfClient no_relay) feeding =
      client_goes him (changed w (EndAndLeave him mount)) refl refl refl (left_after him mount) (λ u. cc) no_relay
  ends_and_leaves event him mount (OfRelay relay) feeding =
      relay_goes him (changed w (EndAndLeave him mount)) refl refl refl (left_after him mount) relay

  adds_by : (event : Event) (o : Outcome) → Way w event o
      → ((id : ℕ) → event ≡ Leave id → o.reply ≡ Noted → standing_of w id ≡ Unknown → ⊥) → Adds w (changed w o.change) event o.reply
  adds_by event o (Misplaced _) known = nobody_moves w event o.reply (nobody_else w) refl refl refl refl refl refl refl
  adds_by event o (IsFinished _ him by its told) known = nobody_moves w event o.reply (nobody_else w) refl refl refl refl refl refl refl
  adds_by event o (IsDenied _ by v nobody) known = nobody_moves w event o.reply (nobody_else w) refl refl refl refl refl refl refl
  adds_by event o (IsRefused _ him by v its undecided) known =
      nobody_moves (changed w o.change) event o.reply (record { same_ids = same_state him HasHisAnswer w.station.clients; same_relays = refl; same_rows = refl; same_last = refl })
      refl refl refl refl refl refl refl
  adds_by event o (IsAdmitted peer allowed) known =
      let new = undecided_client (w.station.last_id + 1) peer w.station.time in
      let none = no_client_there w (w.station.last_id + 1) (s.numbered (w.station.last_id + 1) (omega arith)) in
      let more = placed_length (w.station.last_id + 1) (ids w) (number_free number_of (w.station.last_id + 1) w.station.clients none) in
      adds (changed w o.change) event o.reply refl (omega (arith, ap length (numbers_placed number_of new w.station.clients), more)) (omega arith) (omega arith)
  adds_by event o (ComesUp mount shown unfed allowed) known =
      let up = just_raised w s mount (shown_for w.station mount shown) unfed in
      let called = same_called up mount in
      let none = no_relay_there w (w.station.last_id + 1) (s.numbered (w.station.last_id + 1) (omega arith)) in
      let more = placed_length (w.station.last_id + 1) (relay_ids w) (number_free relay_number (w.station.last_id + 1) w.station.relays none) in
      let placed_now = numbers_placed relay_number (risen (w.station.last_id + 1) mount) w.station.relays in
      adds (changed w o.change) event o.reply called.same_last (omega (arith, ap length called.same_ids))
      (omega (arith, ap length called.same_relays, ap length placed_now, more))
      (omega (arith, ap length called.same_rows, ap length (numbers_hearing mount (w.station.last_id + 1) w.seats)))
  adds_by event o (Begins asked undecided none allowed) known =
      nobody_moves (changed w o.change) event o.reply
      (same_begun w asked.id asked.mount (shown_for w.station asked.mount asked.shown)) refl refl refl refl refl refl refl
  adds_by event o (Receives him mount block feeding) known =
      nobody_moves (changed w o.change) event o.reply (same_received w mount block) refl refl refl refl refl refl refl
  adds_by event o (Shows _ asker peer text its undecided what) known =
      nobody_moves (changed w o.change) event o.reply (record { same_ids = same_state asker HasHisAnswer w.station.clients; same_relays = refl; same_rows = refl; same_last = refl })
      refl refl refl refl refl refl refl
  adds_by event o (Obeys _ command c) known = nobody_moves (changed w o.change) event o.reply (same_obeyed w c.asked.id command) refl refl refl refl refl refl refl
  adds_by event o (HasPassed ms e) known = nobody_moves w event o.reply (nobody_else w) refl refl refl refl refl refl refl
  adds_by event o (Ticks ms e) known = nobody_moves (changed w o.change) event o.reply (same_ticked w ms) refl refl refl refl refl refl refl
  adds_by event o (SetsTitle him mount text feeding) known =
      nobody_moves (changed w o.change) event o.reply (record { same_ids = refl; same_relays = refl; same_rows = refl; same_last = refl }) refl refl refl refl refl refl refl
  adds_by event o (TakesSeat asked peer session undecided lands live allowed) known =
      let new = seated asked.id (first_seat w.station asked peer session) in
      let free = inv.fresh asked.id (subst IsYetToAsk (sym undecided) tt) in
      let more = placed_length asked.id (rows w) free in
      adds (changed w o.change) event o.reply (omega arith) (omega (arith, ap length (same_state asked.id Listens w.station.clients))) (omega arith)
      (omega (arith, ap length (numbers_placed row_of new w.seats), more))
  adds_by event o (HandsOut him room seat session sits has_one live) known =
      nobody_moves (changed w o.change) event o.reply
      (record { same_ids = refl; same_relays = refl; same_rows = numbers_updated row_of (is_listener him) (advanced _) (λ x. refl) w.seats; same_last = refl })
      refl refl refl refl refl refl refl
  adds_by event o (Ends him mount feeding no_relay) known =
      nobody_moves (changed w o.change) event o.reply
      (record { same_ids = same_state him HasHisAnswer w.station.clients; same_relays = refl; same_rows = same_over_rows w mount; same_last = refl }) refl refl refl refl refl refl refl
  adds_by event o (EndsAndLeaves _ him mount closes feeding) known = ends_and_leaves event him mount closes feeding
  adds_by event o (Leaves him no_relay other) known =
      client_goes him (changed w (Forget him)) refl refl refl (numbers_without row_of him w.seats) (λ unknown. known him refl refl unknown) no_relay
  adds_by event o (GoesDown him rule relay told) known =
      relay_goes him (changed w (Forget him)) refl refl refl (numbers_without row_of him w.seats) relay

module _ (w : World) (s : IsSound w) (inv : AreInOrder w) where
  -- if nobody has that number, the reply to its leaving is that of an event out of place
  left_is_known : (event : Event) (id : ℕ) → event ≡ Leave id → (outcome w event).reply ≡ Noted → standing_of w id ≡ Unknown → ⊥
  unfolding outcome
  left_is_known event id leaves noted unknown =
      let stray : (outcome w event).reply ≡ Stray
      = ap (λ e. (outcome w e).reply) leaves ∙ ap (λ st. (unless_relayed (has_relay w id) (leaves_from id st)).reply) unknown ∙ is_stray (has_relay w id) in cc where
        is_stray : (b : Bool) → (unless_relayed b (says Stray Nothing)).reply ≡ Stray
        is_stray true = refl
        is_stray false = refl

  pub adds_up : (event : Event) → AddsUp w event
  unfolding world_after reply_to
  adds_up event =
      let adds = adds_by w s inv event (outcome w event) (way_of w event) (left_is_known event) in
      record { numbers = adds.numbers; clients = adds.clients; relays = adds.relays; seats = adds.seats }

adds_up_after : (w : World) → IsSound w → AreInOrder w → (events : List Event) (event : Event) → AddsUp (world_after_all w events) event
adds_up_after w s inv [] event = adds_up w s inv event
adds_up_after w s inv (first ∷ events) event = adds_up_after (world_after w first) (sound_after w s first) (order_after w s inv first) events event

pub adds_up_run : (settings : Settings) (lists : Lists) (events : List Event) (event : Event) → AddsUp (run_after settings lists events) event
adds_up_run settings lists events event = adds_up_after (opening settings lists) (sound_opening settings lists) (order_opening settings lists) events event
