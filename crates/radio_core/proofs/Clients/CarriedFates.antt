-- how each client fares where a move carries listeners along
use Rattle.std.proofs.Common.{◌≡◌, true, ℕ, Option, Some, None, is_some, List, refl, ap, sym, ◌∙◌}
use Rattle.radio_core.proofs.Words.{and_parts, Rule, Lists, lets_in, Listener, Seat, listener_of, seat_of, seat_in, AreByNumber, Move, Stays, GoesTo, IsOut, MaySit, concerns, seat_at_end, numbers_kept, Faring, HasStayed}
use Rattle.radio_core.proofs.Words.{HasGone, HasLost, fares, StationState, Sits, carried_along, Client, client_of, Relay, relay_of, sight_of, live_end, his_turn, moved_into, Session, IsSound, end_of, World, standing_of}
use Rattle.radio_core.proofs.Words.{standing_of_found, same_order, heard_end, heard_named, heard_number, heard_at}
use Rattle.radio_seats_rows.specs.declared.seat.Seating.TheVariants.{Sits as HasSeat, Finished as HasLostIt}
use Rattle.radio_core.proofs.Clients.Fates.{Fate, IsEnded, IsMoved, lost_in, active_sitter}
use Rattle.radio_core.proofs.Clients.Standings.{sits_in}

-- a carry leaves the listeners in their order
pub order_carried : (w : World) (move : Move) → AreByNumber w.seats → AreByNumber (carried_along w move).seats
order_carried w move order = same_order w.seats (carried_along w move).seats (numbers_kept (sight_of w.station) move w.seats) order

found_there : {A : Type 0} (found : Option A) → is_some found ≡ true → (x : A) × (found ≡ Some x)
found_there None e = cc
found_there (Some x) e = (x, refl)

-- the end of a stream, as a walk sees it, is that of the session that listeners of the mount draw
at_its_end : (station : StationState) (to : List ℕ) (session : Session) (seat : Seat) → heard_at station to ≡ Some session
    → seat_at_end (sight_of station) to seat ≡ moved_into session seat
at_its_end station to session seat heard =
    let named : session.mount ≡ to = heard_named station to session heard in
    ap (λ (n : ℕ). record seat { mount = to; session = n; place = live_end station to }) (heard_number station to session heard)
    ∙ ap (λ (n : ℕ). record seat { mount = to; session = session.number; place = n }) (heard_end station to session heard)
    ∙ ap (λ (m : List ℕ). record seat { mount = m; session = session.number; place = end_of session.stream }) (sym named)

module _ (C : ℕ → Rule → Type 0) (M : ℕ → Session → Type 0) (S : ℕ → Type 0) (L : World → Seat → Session → Type 0) (w : World) (s : IsSound w) (station : StationState)
    (clients : station.clients ≡ w.station.clients) (relays : station.relays ≡ w.station.relays) (lists : station.lists ≡ w.station.lists) (move : Move) (later : World)
    (live : (mount : List ℕ) → heard_at later.station mount ≡ heard_at station mount) (id : ℕ) where
  -- the state before the first turn
  abbrev before : World
  before = record w { station = station }

  abbrev after : World
  after = carried_along before move

  abbrev client : Option Client
  client = client_of w.station.clients id

  abbrev relay : Option Relay
  relay = relay_of w.station.relays id

  -- its standing is the one that its row in the table gives
  stands_by : (listener : Option Listener) → listener_of after.seats id ≡ listener → standing_of after id ≡ standing_of_found relay listener client
  stands_by listener e =
      ap (λ l. standing_of_found (relay_of station.relays id) l (client_of station.clients id)) e
      ∙ ap (λ (cs : List Client). standing_of_found (relay_of station.relays id) listener (client_of cs id)) clients
      ∙ ap (λ (rs : List Relay). standing_of_found (relay_of rs id) listener client) relays

  module _ (stands : standing_of later id ≡ standing_of after id) (seats : seat_of later.seats id ≡ seat_of after.seats id)
      (stays : ((seat : Seat) → seat_of w.seats id ≡ Some seat → his_turn before move id ≡ Stays) → standing_of later id ≡ standing_of w id
      → seat_of later.seats id ≡ seat_of w.seats id → Fate C M S L w later id)
      (left : (seat : Seat) (session : Session) → seat_of w.seats id ≡ Some seat → concerns move seat.mount seat.home ≡ true
      → his_turn before move id ≡ GoesTo session.mount → heard_at station session.mount ≡ Some session → L later seat session)
      (causes : (seat : Seat) (rule : Rule) → seat_of w.seats id ≡ Some seat → his_turn before move id ≡ IsOut rule → C id rule)
      (carries : (session : Session) → his_turn before move id ≡ GoesTo session.mount → M id session) where
    goes : (seat : Seat) (to : List ℕ) (others : List Listener) → his_turn before move id ≡ GoesTo to → seat_of w.seats id ≡ Some seat
        → concerns move seat.mount seat.home ≡ true → MaySit (sight_of station) others seat.pair to
        → listener_of after.seats id ≡ Some (record { id = id; seating = HasSeat (seat_at_end (sight_of station) to seat) }) → Fate C M S L w later id
    goes seat to others turn had concerned fits now =
        let found = found_there (heard_at station to) fits.is_live in
        let named : found.0.mount ≡ to = heard_named station to found.0 found.1 in
        let goes_there : his_turn before move id ≡ GoesTo found.0.mount = turn ∙ ap (λ (m : List ℕ). GoesTo m) (sym named) in
        let is_live : heard_at station found.0.mount ≡ Some found.0 = ap (heard_at station) named ∙ found.1 in
        let sat : standing_of w id ≡ Sits = s.sitting id seat had in
        let opens : lets_in station.lists to seat.pair ≡ true = (and_parts (lets_in station.lists to seat.pair) _ fits.is_open).0 in
        IsMoved seat found.0 (carries found.0 goes_there) (left seat found.0 had concerned goes_there is_live) had
        (seats ∙ ap seat_in now ∙ ap (λ (x : Seat). Some x) (at_its_end station to found.0 seat found.1))
        (stands ∙ stands_by (Some (record { id = id; seating = HasSeat (seat_at_end (sight_of station) to seat) })) now
        ∙ sits_in relay (listener_of w.seats id) client id (seat_at_end (sight_of station) to seat) sat ∙ sym sat)
        (live found.0.mount ∙ is_live)
        (ap (λ (x : Lists). lets_in x found.0.mount seat.pair) (sym lists) ∙ ap (λ (m : List ℕ). lets_in station.lists m seat.pair) named ∙ opens)

    fate_by : Faring (sight_of station) move w.seats id → Fate C M S L w later id
    fate_by (HasStayed same turn) =
        stays turn (stands ∙ stands_by (listener_of w.seats id) same) (seats ∙ ap seat_in same)
    fate_by (HasGone seat to turn had concerned fits now) = goes seat to _ turn had concerned fits now
    fate_by (HasLost seat rule turn had concerned now) =
        let sat : standing_of w id ≡ Sits = s.sitting id seat had in
        IsEnded rule (causes seat rule had turn) (active_sitter (standing_of w id) sat)
        (stands ∙ stands_by (Some (record { id = id; seating = HasLostIt rule seat.mount })) now ∙ lost_in relay (listener_of w.seats id) id rule seat.mount client sat)
        (seats ∙ ap seat_in now) (λ mount e. cc)

    pub carried_fate : Fate C M S L w later id
    carried_fate = fate_by (fares (sight_of station) move w.seats s.by_number id)
