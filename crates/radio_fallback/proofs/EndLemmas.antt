-- where a listener lands, and what its turn comes to, does not go by where streams end
use Rattle.std.proofs.Common.{◌≡◌, ℕ, zero, suc, List, Option, Some, None, refl, ap, sym, ◌∙◌}
use Rattle.radio_fallback.proofs.Words.{if◌then◌else◌, Credentials, Listener, Seat, seat_of, without_listener, Move, Ended, Up, To, Stays, Sight, with_ends, landing_here, next_mount, onward, walk, landing, concerns}
use Rattle.radio_fallback.proofs.Words.{walks_on, turn_by, turn_in, turn_of}
use Rattle.radio_fallback.proofs.WalkLaws.{walks_ten}

module _ (sight : Sight) (ends : List ℕ → ℕ) where
  module _ (others : List Listener) (pair : Option Credentials) where
    onward_same : (left : ℕ) (mount : List ℕ)
        → ((next : List ℕ) → walk left (with_ends sight ends) others pair next ≡ walk left sight others pair next) → (next : Option (List ℕ))
        → onward (walk left (with_ends sight ends) others pair) (landing_here sight others pair mount) next
        ≡ onward (walk left sight others pair) (landing_here sight others pair mount) next
    onward_same left mount later None = refl
    onward_same left mount later (Some next) = later next

    walk_same : (left : ℕ) (mount : List ℕ) → walk left (with_ends sight ends) others pair mount ≡ walk left sight others pair mount
    walk_same zero mount = refl
    walk_same (suc left) mount = onward_same left mount (λ next. walk_same left next) (next_mount sight others mount)

    pub landing_same : (mount : List ℕ) → landing (with_ends sight ends) others pair mount ≡ landing sight others pair mount
    landing_same mount = sym (walks_ten (with_ends sight ends) others pair mount) ∙ walk_same 10 mount ∙ walks_ten sight others pair mount

    by_same : (move : Move) → turn_by (with_ends sight ends) others pair move ≡ turn_by sight others pair move
    by_same (Ended mount) = ap walks_on (landing_same mount)
    by_same (Up mount) = refl
    by_same (To mount destination) = refl

  module _ (move : Move) (seats : List Listener) (id : ℕ) where
    in_same : (seat : Option Seat)
        → turn_in (with_ends sight ends) (without_listener seats id) move seat ≡ turn_in sight (without_listener seats id) move seat
    in_same None = refl
    in_same (Some seat) = ap (λ turn. if concerns move seat.mount seat.home then turn else Stays) (by_same (without_listener seats id) seat.pair move)

    pub turn_same : turn_of (with_ends sight ends) move seats id ≡ turn_of sight move seats id
    turn_same = in_same (seat_of seats id)
