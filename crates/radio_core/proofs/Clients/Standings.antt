-- the standings of clients and relays after each change
use Rattle.std.proofs.Common.{◌≡◌, true, false, ℕ, ◌==◌, Option, Some, None, is_some, List, refl, ap, sym, ◌∙◌, arith}
use Rattle.radio_core.proofs.Words.{nat_tests, Rule, Peer, Shown, by_number, ClientState, Listens, Ended, Answer, Admit, TakeSeat, Advance, Forget, Listener, Seat, Seating, Standing, Unknown, Sits, Finished, Client}
use Rattle.radio_core.proofs.Words.{client_of, in_state, with_client_state, Relay, relay_of, risen, relay_ended, listener_of, advanced, heard_to, hears_session, in_session_at, with_session_at, World, standing_of}
use Rattle.radio_core.proofs.Words.{standing_of_found, standing_of_client, standing_seated, standing_of_listener, standing_relayed, standing_of_relay, has_relay, world, changed, begun, raised, finished_in, beside_moved}
use Rattle.radio_core.proofs.Words.{beside_left, beside_seated, has_moved, is_no_listener, has_sat_down, beside_state, beside_forgotten, does, still_none, is_no_client, is_new_client, beside_new, relay_beside_ended}
use Rattle.radio_core.proofs.Words.{relay_beside_gone, is_ended_relay, is_no_relay, is_new_relay, beside_new_relay, listener_hearing, option_map, StationState}
use Rattle.radio_parts_station.specs.declared.clients.ClientState.TheVariants.{Undecided, Feeds, Answered}
use Rattle.radio_seats_rows.specs.declared.seat.Seating.TheVariants.{Sits as HasSeat, Finished as HasFinished}
use Rattle.radio_parts_station.specs.declared.standing.Standing.TheVariants.{Undecided as IsUndecided, Feeds as IsFeeding}
use Rattle.radio_parts_station.specs.declared.standing.Standing.TheVariants.{Answered as IsAnswered}
use Rattle.radio_parts_station.specs.declared.relays.RelayState.{RelayState}
use Rattle.radio_parts_station.specs.declared.relays.RelayState.TheVariants.{Feeds as RelayFeeds, Ended as RelayEnded}

-- one client has this standing from now on, and the others keep theirs
pub record Turns (w later : World) (him : ℕ) (now : Standing) : Type 0 where
  pub his : standing_of later him ≡ now
  pub others : (id : ℕ) → (him == id) ≡ false → standing_of later id ≡ standing_of w id

-- a client of this number is there
abbrev pub IsThere : World → ℕ → Type 0
IsThere w id = (client : Client) × (client_of w.station.clients id ≡ Some client)

-- no relay has yet to ask for something
no_relay_asks : (relay : Option Relay) (peer : Peer) → standing_of_relay relay ≡ IsUndecided peer → ⊥
no_relay_asks None peer e = cc
no_relay_asks (Some relay) peer e = by_state relay.state e where
  by_state : (state : RelayState) → standing_relayed state ≡ IsUndecided peer → ⊥
  by_state (RelayFeeds mount) h = cc
  by_state (RelayEnded rule) h = cc

-- each client has a standing
no_unknown_seating : (seating : Seating) → standing_seated seating ≡ Unknown → ⊥
no_unknown_seating (HasSeat seat) e = cc
no_unknown_seating (HasFinished rule mount) e = cc

no_unknown_listener : (listener : Option Listener) → standing_of_listener listener ≡ Unknown → ⊥
no_unknown_listener None e = cc
no_unknown_listener (Some listener) e = no_unknown_seating listener.seating e

pub is_known : (listener : Option Listener) (peer : Peer) (state : ClientState) → standing_of_client listener peer state ≡ Unknown → ⊥
is_known listener peer Undecided e = cc
is_known listener peer (Feeds mount) e = cc
is_known listener peer Listens e = no_unknown_listener listener e
is_known listener peer Answered e = cc
is_known listener peer (Ended rule) e = cc

-- and each relay
pub is_known_relay : (state : RelayState) → standing_relayed state ≡ Unknown → ⊥
is_known_relay (RelayFeeds mount) e = cc
is_known_relay (RelayEnded rule) e = cc

module _ (w : World) (id : ℕ) where
  abbrev relay_row : Option Relay
  relay_row = relay_of w.station.relays id

  abbrev listener_row : Option Listener
  listener_row = listener_of w.seats id

  -- if no client has the number, the standing is that of a relay
  pub stands_as_relay : client_of w.station.clients id ≡ None → standing_of w id ≡ standing_of_relay relay_row
  stands_as_relay none = ap (standing_of_found relay_row listener_row) none

  pub stands_as_client : (client : Client) → client_of w.station.clients id ≡ Some client → standing_of w id ≡ standing_of_client listener_row client.peer client.state
  stands_as_client client there = ap (standing_of_found relay_row listener_row) there

  -- whoever has yet to ask for something is a client
  pub asks : (peer : Peer) → standing_of w id ≡ IsUndecided peer → IsThere w id
  asks peer e = by_found (client_of w.station.clients id) refl where
    by_found : (found : Option Client) → client_of w.station.clients id ≡ found → IsThere w id
    by_found None none = absurd (no_relay_asks relay_row peer (sym (stands_as_relay none) ∙ e))
    by_found (Some client) there = (client, there)

  -- whoever is known, and no relay, is a client
  pub is_client_there : (standing_of w id ≡ Unknown → ⊥) → has_relay w id ≡ false → IsThere w id
  is_client_there known no_relay = by_found (client_of w.station.clients id) refl where
    no_row : (relay : Option Relay) → is_some relay ≡ false → standing_of_relay relay ≡ Unknown
    no_row None e = refl
    no_row (Some relay) e = cc

    by_found : (found : Option Client) → client_of w.station.clients id ≡ found → IsThere w id
    by_found None none = absurd (known (stands_as_relay none ∙ no_row relay_row no_relay))
    by_found (Some client) there = (client, there)

  -- nobody has a number by which nobody is known
  pub no_client_there : standing_of w id ≡ Unknown → client_of w.station.clients id ≡ None
  no_client_there unknown = by_found (client_of w.station.clients id) refl where
    by_found : (found : Option Client) → client_of w.station.clients id ≡ found → found ≡ None
    by_found None none = refl
    by_found (Some client) there = absurd (is_known listener_row client.peer client.state (sym (stands_as_client client there) ∙ unknown))

  pub no_relay_there : standing_of w id ≡ Unknown → relay_row ≡ None
  no_relay_there unknown = by_found relay_row (sym (stands_as_relay (no_client_there unknown)) ∙ unknown) where
    by_found : (found : Option Relay) → standing_of_relay found ≡ Unknown → found ≡ None
    by_found None e = refl
    by_found (Some relay) e = absurd (is_known_relay relay.state e)

-- one client, or relay, is kept so from now on
module _ (w later : World) (him : ℕ) (relay : Option Relay) (client : Option Client) (listener : Option Listener)
    (its_row : relay_of later.station.relays him ≡ relay) (his_client : client_of later.station.clients him ≡ client)
    (his_seat : listener_of later.seats him ≡ listener) (relays : (id : ℕ) → (him == id) ≡ false
    → relay_of later.station.relays id ≡ relay_of w.station.relays id) (clients : (id : ℕ) → (him == id) ≡ false
    → client_of later.station.clients id ≡ client_of w.station.clients id)
    (seats : (id : ℕ) → (him == id) ≡ false → listener_of later.seats id ≡ listener_of w.seats id) where
  turns : Turns w later him (standing_of_found relay listener client)
  turns = record {
    his = ap (λ r. standing_of_found r (listener_of later.seats him) (client_of later.station.clients him)) its_row
        ∙ ap (λ l. standing_of_found relay l (client_of later.station.clients him)) his_seat ∙ ap (standing_of_found relay listener) his_client;
    others = λ id other. ap (λ r. standing_of_found r (listener_of later.seats id) (client_of later.station.clients id)) (relays id other)
        ∙ ap (λ l. standing_of_found (relay_of w.station.relays id) l (client_of later.station.clients id)) (seats id other)
        ∙ ap (standing_of_found (relay_of w.station.relays id) (listener_of w.seats id)) (clients id other);
  }

module _ (w : World) (id : ℕ) where
  -- who does something else, and is there
  module _ (state : ClientState) (there : IsThere w id) where
    turns_state : (later : World) (listener : Option Listener) → later.station.clients ≡ in_state w.station.clients id state
        → ((him : ℕ) → (id == him) ≡ false → relay_of later.station.relays him ≡ relay_of w.station.relays him)
        → listener_of later.seats id ≡ listener → ((him : ℕ) → (id == him) ≡ false → listener_of later.seats him ≡ listener_of w.seats him)
        → (client : Client) × Turns w later id (standing_of_client listener client.peer state)
    turns_state later listener e relays his others =
        let is_so : client_of later.station.clients id ≡ Some (with_client_state state there.0) =
        ap (λ cs. client_of cs id) e ∙ does w.station.clients id state there.0 there.1 in (
          there.0,
          turns w later id (relay_of later.station.relays id) (Some (with_client_state state there.0)) listener refl is_so his relays
              (λ him other. ap (λ cs. client_of cs him) e ∙ beside_state w.station.clients id him other state) others,
        )

  pub turns_answered : IsThere w id → Turns w (changed w (Answer id)) id IsAnswered
  turns_answered there = (turns_state Answered there (changed w (Answer id)) (listener_of w.seats id) refl (λ him other. refl) refl (λ him other. refl)).1

  abbrev ended_then : Rule → World
  ended_then rule = record w { station = finished_in w.station id rule }

  -- a rule finishes whoever is known: a client, or a relay
  pub turns_ended_by : (rule : Rule) → (standing_of w id ≡ Unknown → ⊥) → Turns w (record w { station = finished_in w.station id rule }) id (Finished rule)
  turns_ended_by rule known = by_client (client_of w.station.clients id) refl where
    by_relay : client_of w.station.clients id ≡ None → (found : Option Relay) → relay_of w.station.relays id ≡ found → Turns w (ended_then rule) id (Finished rule)
    by_relay nobody None none = absurd (known (stands_as_relay w id nobody ∙ ap standing_of_relay none))
    by_relay nobody (Some relay) there =
        turns w (ended_then rule) id (Some (relay_ended rule relay)) None (listener_of w.seats id) (is_ended_relay w.station.relays id rule relay there)
        (still_none id (Ended rule) w.station.clients nobody) refl (λ him other. relay_beside_ended w.station.relays id him other rule)
        (λ him other. beside_state w.station.clients id him other (Ended rule)) (λ him other. refl)

    by_client : (found : Option Client) → client_of w.station.clients id ≡ found → Turns w (ended_then rule) id (Finished rule)
    by_client None none = by_relay none (relay_of w.station.relays id) refl
    by_client (Some client) there =
        (turns_state (Ended rule) (client, there) (ended_then rule) (listener_of w.seats id) refl
        (λ him other. relay_beside_ended w.station.relays id him other rule) refl (λ him other. refl)).1

  pub turns_feeding : (mount : List ℕ) (shown : Shown) → IsThere w id
      → Turns w (record w { station = begun w.station id mount shown }) id (IsFeeding mount)
  turns_feeding mount shown there =
      (turns_state (Feeds mount) there (record w { station = begun w.station id mount shown }) (listener_of w.seats id) refl (λ him other. refl) refl
      (λ him other. refl)).1

  pub turns_sitting : (seat : Seat) → IsThere w id → Turns w (changed w (TakeSeat id seat)) id Sits
  turns_sitting seat there =
      let itself : (id == id) ≡ true = grind (arith, nat_tests) in
      (turns_state Listens there (changed w (TakeSeat id seat)) (Some (record { id = id; seating = HasSeat seat })) refl (λ him other. refl)
      (has_sat_down w.seats id seat itself) (λ him other. beside_seated w.seats id him other seat)).1

  pub turns_forgotten : Turns w (changed w (Forget id)) id Unknown
  turns_forgotten =
      turns w (changed w (Forget id)) id None None None (is_no_relay w.station.relays id) (is_no_client w.station.clients id) (is_no_listener w.seats id)
      (λ him other. relay_beside_gone w.station.relays id him other) (λ him other. beside_forgotten w.station.clients id him other)
      (λ him other. beside_left w.seats id him other)

  pub turns_admitted : (peer : Peer) → Turns w (changed w (Admit id peer)) id (IsUndecided peer)
  turns_admitted peer =
      let itself : (id == id) ≡ true = grind (arith, nat_tests) in
      let new : Client = record { id = id; peer = peer; arrived = w.station.time; state = Undecided } in
      turns w (changed w (Admit id peer)) id (relay_of w.station.relays id) (Some new) (listener_of w.seats id) refl
      (is_new_client w.station.clients new id itself) refl (λ him other. refl) (λ him other. beside_new w.station.clients new him other) (λ him other. refl)

  -- a relay comes up with a number that nobody had
  pub turns_raised : (mount : List ℕ) (shown : Shown) → standing_of w id ≡ Unknown
      → Turns w (record w { station = raised w.station id mount shown }) id (IsFeeding mount)
  turns_raised mount shown unknown =
      let itself : (id == id) ≡ true = grind (arith, nat_tests) in
      let new : Relay = risen id mount in
      turns w (record w { station = raised w.station id mount shown }) id (Some new) None (listener_of w.seats id)
      (is_new_relay w.station.relays new id itself) (no_client_there w id unknown) refl
      (λ him other. beside_new_relay w.station.relays new him other) (λ him other. refl) (λ him other. refl)

-- a listener that draws keeps its standing
heard_on : (place : ℕ) (seating : Seating) → standing_seated (heard_to place seating) ≡ standing_seated seating
heard_on place (HasSeat seat) = refl
heard_on place (HasFinished rule mount) = refl

heard_by : (place : ℕ) (listener : Listener) (peer : Peer) (state : ClientState)
    → standing_of_client (Some (advanced place listener)) peer state ≡ standing_of_client (Some listener) peer state
heard_by place listener peer Undecided = refl
heard_by place listener peer (Feeds mount) = refl
heard_by place listener peer Listens = heard_on place listener.seating
heard_by place listener peer Answered = refl
heard_by place listener peer (Ended rule) = refl

heard_in : (relay : Option Relay) (place : ℕ) (listener : Listener) (client : Option Client)
    → standing_of_found relay (Some (advanced place listener)) client ≡ standing_of_found relay (Some listener) client
heard_in relay place listener None = refl
heard_in relay place listener (Some client) = heard_by place listener client.peer client.state

pub stays_hearing : (w : World) (him place : ℕ) (listener : Listener) → listener_of w.seats him ≡ Some listener → (id : ℕ)
    → standing_of (changed w (Advance him place)) id ≡ standing_of w id
stays_hearing w him place listener found id = by_number him id his others where
  his : him ≡ id → standing_of (changed w (Advance him place)) id ≡ standing_of w id
  his same =
      let client = client_of w.station.clients id in
      let relay = relay_of w.station.relays id in
      ap (λ n. standing_of_found relay (listener_of (changed w (Advance him place)).seats n) client) (sym same)
      ∙ ap (λ l. standing_of_found relay l client) (has_moved w.seats him place listener found)
      ∙ heard_in relay place listener client
      ∙ ap (λ l. standing_of_found relay l client) (sym found)
      ∙ ap (λ n. standing_of_found relay (listener_of w.seats n) client) same

  others : (him == id) ≡ false → standing_of (changed w (Advance him place)) id ≡ standing_of w id
  others other = ap (λ l. standing_of_found (relay_of w.station.relays id) l (client_of w.station.clients id)) (beside_moved w.seats him id other place)

-- a listener keeps its standing when a session begins at its mount
given_seated : (mount : List ℕ) (session : ℕ) (seating : Seating) → standing_seated (in_session_at mount session seating) ≡ standing_seated seating
given_seated mount session (HasSeat seat) = refl
given_seated mount session (HasFinished rule last) = refl

given_by : (mount : List ℕ) (session : ℕ) (listener : Listener) (peer : Peer) (state : ClientState)
    → standing_of_client (Some (hears_session mount session listener)) peer state ≡ standing_of_client (Some listener) peer state
given_by mount session listener peer Undecided = refl
given_by mount session listener peer (Feeds at) = refl
given_by mount session listener peer Listens = given_seated mount session listener.seating
given_by mount session listener peer Answered = refl
given_by mount session listener peer (Ended rule) = refl

given_in : (relay : Option Relay) (mount : List ℕ) (session : ℕ) (listener : Option Listener) (client : Option Client)
    → standing_of_found relay (option_map (hears_session mount session) listener) client ≡ standing_of_found relay listener client
given_in relay mount session None client = refl
given_in relay mount session (Some listener) None = refl
given_in relay mount session (Some listener) (Some client) = given_by mount session listener client.peer client.state

pub stays_given : (station : StationState) (seats : List Listener) (mount : List ℕ) (session id : ℕ)
    → standing_of (world station (with_session_at seats mount session)) id ≡ standing_of (world station seats) id
stays_given station seats mount session id =
    ap (λ l. standing_of_found (relay_of station.relays id) l (client_of station.clients id)) (listener_hearing mount session seats id)
    ∙ given_in (relay_of station.relays id) mount session (listener_of seats id) (client_of station.clients id)

pub turns_given : (w : World) (station : StationState) (mount : List ℕ) (session him : ℕ) (now : Standing) → Turns w (record w { station = station }) him now
    → Turns w (world station (with_session_at w.seats mount session)) him now
turns_given w station mount session him now t = record {
  his = stays_given station w.seats mount session him ∙ t.his;
  others = λ id other. stays_given station w.seats mount session id ∙ t.others id other;
}

-- who feeds feeds whoever listens
no_source : (seating : Seating) (mount : List ℕ) → standing_seated seating ≡ IsFeeding mount → ⊥
no_source (HasSeat seat) mount e = cc
no_source (HasFinished rule last) mount e = cc

feeds_by : (listener other : Option Listener) (peer : Peer) (state : ClientState) (mount : List ℕ) → standing_of_client listener peer state ≡ IsFeeding mount
    → standing_of_client other peer state ≡ IsFeeding mount
feeds_by listener other peer Undecided mount e = cc
feeds_by listener other peer (Feeds own) mount e = e
feeds_by None other peer Listens mount e = cc
feeds_by (Some listener) other peer Listens mount e = absurd (no_source listener.seating mount e)
feeds_by listener other peer Answered mount e = cc
feeds_by listener other peer (Ended rule) mount e = cc

pub feeds_in : (relay : Option Relay) (listener other : Option Listener) (client : Option Client) (mount : List ℕ)
    → standing_of_found relay listener client ≡ IsFeeding mount → standing_of_found relay other client ≡ IsFeeding mount
feeds_in relay listener other None mount e = e
feeds_in relay listener other (Some client) mount e = feeds_by listener other client.peer client.state mount e

pub feeds_whoever_sits : (w : World) (seats : List Listener) (id : ℕ) (mount : List ℕ) → standing_of w id ≡ IsFeeding mount
    → standing_of (record w { seats = seats }) id ≡ IsFeeding mount
feeds_whoever_sits w seats id mount e = feeds_in (relay_of w.station.relays id) (listener_of w.seats id) (listener_of seats id) (client_of w.station.clients id) mount e

-- who sits does so at whatever mount
sits_by : (listener : Option Listener) (peer : Peer) (state : ClientState) (id : ℕ) (seat : Seat) → standing_of_client listener peer state ≡ Sits
    → standing_of_client (Some (record { id = id; seating = HasSeat seat })) peer state ≡ Sits
sits_by listener peer Undecided id seat e = cc
sits_by listener peer (Feeds mount) id seat e = cc
sits_by listener peer Listens id seat e = refl
sits_by listener peer Answered id seat e = cc
sits_by listener peer (Ended rule) id seat e = cc

pub no_relay_sits : (relay : Option Relay) → standing_of_relay relay ≡ Sits → ⊥
no_relay_sits None e = cc
no_relay_sits (Some relay) e = by_state relay.state e where
  by_state : (state : RelayState) → standing_relayed state ≡ Sits → ⊥
  by_state (RelayFeeds mount) h = cc
  by_state (RelayEnded rule) h = cc

pub sits_in : (relay : Option Relay) (listener : Option Listener) (client : Option Client) (id : ℕ) (seat : Seat) → standing_of_found relay listener client ≡ Sits
    → standing_of_found relay (Some (record { id = id; seating = HasSeat seat })) client ≡ Sits
sits_in relay listener None id seat e = absurd (no_relay_sits relay e)
sits_in relay listener (Some client) id seat e = sits_by listener client.peer client.state id seat e
