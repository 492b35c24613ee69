-- walks and moves in states that agree within reach
use Rattle.std.proofs.Common.{◌≡◌, Bool, true, false, ℕ, zero, suc, Option, Some, None, List, [], ◌∷◌, refl, ap, sym, ◌∙◌}
use Rattle.radio_laws.proofs.Words.{◌+◌, if◌then◌else◌, is_some, ◌||◌, bytes_eq-Decides, Credentials, Rule, Listener, Seat, seat_of, without_listener, Session, session_of, Landing, Lands, Stops, Carried, Move, Ended, Up}
use Rattle.radio_laws.proofs.Words.{To, Stays, GoesTo, IsOut, Sight, is_full, sits_already, is_full_for, found_at, stop_of, landing_at, landing_here, hands_on, next_mount, onward, walk, landing, concerns, walks_on}
use Rattle.radio_laws.proofs.Words.{is_asked, turn_by, turn_in, turn_of, Carry, carry_after_move, turns, numbers_of, at_first, carried, is_out, walks_ten, sight_of, fallback_of, World, ListenersAgree, SameListener}
use Rattle.radio_laws.proofs.Words.{heard_at, silence_of, option_or}
use Rattle.radio_fallback.specs.declared.moves.MoveEffect.{MoveEffect}
use Rattle.radio_laws.proofs.Locality.AgreeingLists.{agree_all}
use Rattle.radio_laws.proofs.Locality.Agreeing.{beyond, SessionsDo, live_alike, session_alike, ListenersDo, IsBeyond, SeatsAgree, SameSeat, BothBeyond, numbers_alike, seat_alike, count_alike, sits_alike}
use Rattle.radio_laws.proofs.Locality.Agreeing.{without_alike, with_move_alike, with_end_alike}

-- the state with these sessions in place of its own
abbrev pub with_live : World → List Session → World
with_live w live = record w { station = record w.station { live = live } }

module _ (within : List ℕ → Bool) (w : World) (live : List Session) (r : SessionsDo within live w.station.live) where
  abbrev one : Sight
  one = sight_of (with_live w live).station

  abbrev other : Sight
  other = sight_of w.station

  open_or : (found : Option Session) (silence : Option Session) → is_some (option_or found silence) ≡ (is_some found || is_some silence)
  open_or None silence = refl
  open_or (Some session) silence = refl

  -- the same mounts are live or wait for a session
  pub open_alike : (mount : List ℕ) → is_some (heard_at (with_live w live).station mount) ≡ is_some (heard_at w.station mount)
  open_alike mount =
      open_or (session_of live mount) (silence_of w.station mount)
      ∙ ap (λ (b : Bool). b || is_some (silence_of w.station mount)) (live_alike within live w.station.live r mount)
      ∙ sym (open_or (session_of w.station.live mount) (silence_of w.station mount))

  -- a mount within reach falls back to one within reach
  abbrev pub Onward : Type 0
  Onward = (mount next : List ℕ) → within mount ≡ true → fallback_of w.station mount ≡ Some next → within next ≡ true

  -- what a walk finds at a mount within reach, if these are the other listeners in both states
  module _ (here there : List Listener) (s : ListenersDo within here there) where
    full_alike : (mount : List ℕ) → within mount ≡ true → is_full_for one here mount ≡ is_full_for other there mount
    full_alike mount near = ap (λ n. is_full n (other.limit mount)) (count_alike within here there s mount near)

    already_alike : (mount : List ℕ) → within mount ≡ true → (pair : Option Credentials) → sits_already here mount pair ≡ sits_already there mount pair
    already_alike mount near None = refl
    already_alike mount near (Some sent) = sits_alike within here there s mount near sent.user

    pub found_alike : (mount : List ℕ) (pair : Option Credentials) → within mount ≡ true → found_at one here mount pair ≡ found_at other there mount pair
    found_alike mount pair near =
        let is_live = open_alike mount in
        let is_full = full_alike mount near in
        let sits = already_alike mount near pair in
        rw (is_live, is_full, sits) refl

    pub here_alike : (mount : List ℕ) (pair : Option Credentials) → within mount ≡ true → landing_here one here pair mount ≡ landing_here other there pair mount
    here_alike mount pair near = ap (λ found. landing_at mount (stop_of found)) (found_alike mount pair near)

    next_alike : (mount : List ℕ) → within mount ≡ true → next_mount one here mount ≡ next_mount other there mount
    next_alike mount near =
        let is_live = open_alike mount in let is_full = full_alike mount near in rw (is_live, is_full) refl

    module _ (closed : Onward) where
      -- a walk goes on within reach
      next_within : (mount next : List ℕ) → within mount ≡ true → next_mount other there mount ≡ Some next → within next ≡ true
      next_within mount next near goes = by_test (hands_on other there mount) goes where
        by_test : (b : Bool) → (if b then fallback_of w.station mount else None) ≡ Some next → within next ≡ true
        by_test true e = closed mount next near e
        by_test false e = cc

      walk_on : (left : ℕ) (mount : List ℕ) (pair : Option Credentials) → within mount ≡ true
          → ((next : List ℕ) → within next ≡ true → walk left one here pair next ≡ walk left other there pair next)
          → (next : Option (List ℕ)) → next_mount other there mount ≡ next
          → onward (walk left one here pair) (landing_here other there pair mount) next ≡ onward (walk left other there pair) (landing_here other there pair mount) next
      walk_on left mount pair near later None e = refl
      walk_on left mount pair near later (Some next) e = later next (next_within mount next near e)

      walk_alike : (left : ℕ) (mount : List ℕ) (pair : Option Credentials) → within mount ≡ true → walk left one here pair mount ≡ walk left other there pair mount
      walk_alike zero mount pair near = refl
      walk_alike (suc left) mount pair near =
          rw (here_alike mount pair near, next_alike mount near)
          (walk_on left mount pair near (λ next. walk_alike left next pair) (next_mount other there mount) refl)

      pub landing_alike : (mount : List ℕ) (pair : Option Credentials) → within mount ≡ true → landing one here pair mount ≡ landing other there pair mount
      landing_alike mount pair near = sym (walks_ten one here pair mount) ∙ walk_alike 10 mount pair near ∙ walks_ten other there pair mount

      lands_at : (mount to : List ℕ) (stop : Option Rule) → within mount ≡ true → landing_at mount stop ≡ Lands to → within to ≡ true
      lands_at mount to None near lands = let same : mount ≡ to = cc in ap within (sym same) ∙ near
      lands_at mount to (Some rule) near lands = cc

      lands_on : (left : ℕ) (mount to : List ℕ) (pair : Option Credentials) → within mount ≡ true
          → ((next : List ℕ) → within next ≡ true → walk left other there pair next ≡ Lands to → within to ≡ true)
          → (next : Option (List ℕ)) → next_mount other there mount ≡ next
          → onward (walk left other there pair) (landing_here other there pair mount) next ≡ Lands to → within to ≡ true
      lands_on left mount to pair near later None e lands = lands_at mount to (stop_of (found_at other there mount pair)) near lands
      lands_on left mount to pair near later (Some next) e lands = later next (next_within mount next near e) lands

      lands_by : (left : ℕ) (mount to : List ℕ) (pair : Option Credentials) → within mount ≡ true → walk left other there pair mount ≡ Lands to → within to ≡ true
      lands_by zero mount to pair near lands = cc
      lands_by (suc left) mount to pair near lands =
          lands_on left mount to pair near (λ next. lands_by left next to pair) (next_mount other there mount) refl lands

      -- and the mount at which it lands is within reach
      pub lands_within : (mount to : List ℕ) (pair : Option Credentials) → within mount ≡ true → landing other there pair mount ≡ Lands to → within to ≡ true
      lands_within mount to pair near lands = lands_by 10 mount to pair near (walks_ten other there pair mount ∙ lands)

  -- a move over mounts within reach alone. One that calls listeners home may find them at any mount
  abbrev pub MovesWithin : Move → Type 0
  MovesWithin (Ended mount) = (within mount ≡ true) × Onward
  MovesWithin (Up mount) = ⊥
  MovesWithin (To mount destination) = (within mount ≡ true) × (within destination ≡ true)

  -- a listener that the move concerns sits within reach
  pub concerned : (move : Move) → MovesWithin move → (seat : Seat) → concerns move seat.mount seat.home ≡ true → within seat.mount ≡ true
  concerned (Ended mount) near seat e = let same : seat.mount ≡ mount = (bytes_eq-Decides seat.mount mount).0 e in ap within same ∙ near.0
  concerned (Up mount) near seat e = absurd near
  concerned (To mount destination) near seat e = let same : seat.mount ≡ mount = (bytes_eq-Decides seat.mount mount).0 e in ap within same ∙ near.0

  unconcerned : (move : Move) → MovesWithin move → (seat : Seat) → within seat.mount ≡ false → concerns move seat.mount seat.home ≡ false
  unconcerned (Ended mount) near seat out = beyond within seat.mount mount out near.0
  unconcerned (Up mount) near seat out = absurd near
  unconcerned (To mount destination) near seat out = beyond within seat.mount mount out near.0

  module _ (move : Move) (near : MovesWithin move) where
    module _ (here there : List Listener) (s : ListenersDo within here there) (id : ℕ) where
      by_move : (m : Move) → MovesWithin m → (pair : Option Credentials)
          → turn_by one (without_listener here id) pair m ≡ turn_by other (without_listener there id) pair m
      by_move (Ended mount) goes pair =
          ap walks_on (landing_alike (without_listener here id) (without_listener there id) (without_alike within here there s id) goes.1 mount pair goes.0)
      by_move (Up mount) goes pair = absurd goes
      by_move (To mount destination) goes pair =
          ap is_asked (here_alike (without_listener here id) (without_listener there id) (without_alike within here there s id) destination pair goes.1)

      -- one beyond reach stays
      stays : (sight : Sight) (others : List Listener) (x : Option Seat) → IsBeyond within x → turn_in sight others move x ≡ Stays
      stays sight others None out = refl
      stays sight others (Some seat) out = rw (unconcerned move near seat out) refl

      by_seats : (x y : Option Seat) → SeatsAgree within x y
          → turn_in one (without_listener here id) move x ≡ turn_in other (without_listener there id) move y
      by_seats _ _ (SameSeat None) = refl
      by_seats _ _ (SameSeat (Some seat)) = ap (λ t. if concerns move seat.mount seat.home then t else Stays) (by_move move near seat.pair)
      by_seats _ _ (BothBeyond a b out away) = stays one (without_listener here id) a out ∙ sym (stays other (without_listener there id) b away)

      turn_alike : turn_of one move here id ≡ turn_of other move there id
      turn_alike = by_seats (seat_of here id) (seat_of there id) (seat_alike within here there s id)

      -- a listener that moves sits within reach, and still does afterwards
      goes_by : (m : Move) → MovesWithin m → (pair : Option Credentials) (to : List ℕ) → turn_by other (without_listener there id) pair m ≡ GoesTo to → within to ≡ true
      goes_by (Ended mount) goes pair to e =
          by_landing (landing other (without_listener there id) pair mount) refl e where
            by_landing : (l : Landing) → landing other (without_listener there id) pair mount ≡ l → walks_on l ≡ GoesTo to → within to ≡ true
            by_landing (Lands m) lands at =
                let same : m ≡ to = cc in
                lands_within (without_listener here id) (without_listener there id) (without_alike within here there s id) goes.1 mount to pair goes.0
                (lands ∙ ap Lands same)
            by_landing (Stops rule) lands at = cc
      goes_by (Up mount) goes pair to e = absurd goes
      goes_by (To mount destination) goes pair to e = by_stop (stop_of (found_at other (without_listener there id) destination pair)) e where
        by_stop : (stop : Option Rule) → is_asked (landing_at destination stop) ≡ GoesTo to → within to ≡ true
        by_stop None at = let same : destination ≡ to = cc in ap within (sym same) ∙ goes.1
        by_stop (Some rule) at = cc

      goes_in : (x : Option Seat) (to : List ℕ) → turn_in other (without_listener there id) move x ≡ GoesTo to
          → (within to ≡ true) × ((seat : Seat) × (x ≡ Some seat) × (within seat.mount ≡ true))
      goes_in None to e = cc
      goes_in (Some seat) to e = by_test (concerns move seat.mount seat.home) refl e where
        by_test : (b : Bool) → concerns move seat.mount seat.home ≡ b
            → (if b then turn_by other (without_listener there id) seat.pair move else Stays) ≡ GoesTo to
            → (within to ≡ true) × ((his : Seat) × (Some seat ≡ Some his) × (within his.mount ≡ true))
        by_test true is goes = (goes_by move near seat.pair to goes, (seat, refl, concerned move near seat is))
        by_test false is goes = cc

    -- and so does a listener that the move leaves out
    out_within : (seats : List Listener) (id : ℕ) (rule : Rule) (seat : Seat) → turn_of other move seats id ≡ IsOut rule → seat_of seats id ≡ Some seat
        → within seat.mount ≡ true
    out_within seats id rule seat e has = by_test (concerns move seat.mount seat.home) refl (ap (turn_in other (without_listener seats id) move) (sym has) ∙ e) where
      by_test : (b : Bool) → concerns move seat.mount seat.home ≡ b
          → (if b then turn_by other (without_listener seats id) seat.pair move else Stays) ≡ IsOut rule → within seat.mount ≡ true
      by_test true is out = concerned move near seat is
      by_test false is out = cc

    record CarriesDo (a b : Carry) : Type 0 where
      seats : ListenersDo within a.seats b.seats
      counts : a.counts ≡ b.counts

    one_turn : (a b : Carry) → CarriesDo a b → (id : ℕ) (turn : MoveEffect) → turn_of other move b.seats id ≡ turn
        → CarriesDo (carry_after_move one id a turn) (carry_after_move other id b turn)
    one_turn a b both id Stays e = both
    one_turn a b both id (GoesTo to) e =
        let goes = goes_in a.seats b.seats both.seats id (seat_of b.seats id) to e in
        let its = session_alike within live w.station.live r to goes.0 in
        record {
          seats = rw its (with_move_alike within a.seats b.seats both.seats id goes.1 to (other.stream_end to).session (other.stream_end to).place);
          counts = ap (λ (c : Carried). record c { moved = c.moved + 1 }) both.counts;
        }
    one_turn a b both id (IsOut rule) e =
        let his = is_out other move b.seats id rule e in
        record {
          seats = with_end_alike within a.seats b.seats both.seats id (his.0, his.1, out_within b.seats id rule his.0 e his.1) rule;
          counts = ap (λ (c : Carried). record c { ended = c.ended + 1 }) both.counts;
        }

    all_turns : (ids : List ℕ) (a b : Carry) → CarriesDo a b → CarriesDo (turns one move ids a) (turns other move ids b)
    all_turns [] a b both = both
    all_turns (id ∷ ids) a b both =
        all_turns ids (carry_after_move one id a (turn_of one move a.seats id)) (carry_after_move other id b (turn_of other move b.seats id))
        (rw (turn_alike a.seats b.seats both.seats id) (one_turn a b both id (turn_of other move b.seats id) refl))

    module _ (here there : List Listener) (s : ListenersDo within here there) where
      carries : CarriesDo (carried one move here) (carried other move there)
      carries =
          rw (numbers_alike within here there s) (all_turns (numbers_of there) (at_first here) (at_first there) (record { seats = s; counts = refl }))

      pub carried_alike : ListenersDo within (carried one move here).seats (carried other move there).seats
      carried_alike = carries.seats

      pub counts_alike : (carried one move here).counts ≡ (carried other move there).counts
      counts_alike = carries.counts

    -- the mount to which the move takes one is within reach
    module _ (seats : List Listener) (id : ℕ) where
      itself : ListenersDo within seats seats
      itself = agree_all (ListenersAgree within) (λ a. SameListener refl) seats

      pub goes_within : (to : List ℕ) → turn_of other move seats id ≡ GoesTo to → within to ≡ true
      goes_within to e = (goes_in seats seats itself id (seat_of seats id) to e).0
