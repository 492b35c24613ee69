-- what a turn comes to: it goes only where it may sit
use Rattle.std.proofs.Common.{◌≡◌, Bool, true, false, ℕ, zero, suc, Option, Some, None, List, refl, ap, subst, ◌∙◌}
use Rattle.radio_fallback.proofs.Words.{if◌then◌else◌, Credentials, Listener, Seat, seat_of, without_listener, Landing, Lands, Stops, Move, Ended, Up, To, Stays, GoesTo, Sight, MaySit, found_at, stop_of, landing_at}
use Rattle.radio_fallback.proofs.Words.{landing_here, next_mount, onward, walk, landing, concerns, walks_on, is_asked, turn_by, turn_in, turn_of}
use Rattle.radio_fallback.proofs.WalkLaws.{walks_ten}

module _ (sight : Sight) (others : List Listener) (pair : Option Credentials) where
  fits_by : (mount to : List ℕ) (live full accepted twice : Bool) → sight.is_live mount ≡ live → (found_at sight others mount pair).is_full ≡ full
      → sight.lets_in mount pair ≡ accepted → (found_at sight others mount pair).user_is_twice ≡ twice
      → landing_at mount (stop_of (record { is_live = live; is_full = full; users_accept = accepted; user_is_twice = twice })) ≡ Lands to
      → MaySit sight others pair to
  fits_by mount to true false true false l f a t h =
      let same : mount ≡ to = cc in
      subst (λ (m : List ℕ). MaySit sight others pair m) same (record { is_live = l; has_room = f; is_open = rw (a, t) refl })
  fits_by mount to true false true true l f a t h = cc
  fits_by mount to true false false twice l f a t h = cc
  fits_by mount to true true accepted twice l f a t h = cc
  fits_by mount to false full accepted twice l f a t h = cc

  pub fits_here : (mount to : List ℕ) → landing_here sight others pair mount ≡ Lands to → MaySit sight others pair to
  fits_here mount to h =
      let found = found_at sight others mount pair in
      fits_by mount to found.is_live found.is_full found.users_accept found.user_is_twice refl refl refl refl h

  fits_onward : (left : ℕ) (mount to : List ℕ) (next : Option (List ℕ)) → ((m : List ℕ) → walk left sight others pair m ≡ Lands to → MaySit sight others pair to)
      → onward (walk left sight others pair) (landing_here sight others pair mount) next ≡ Lands to → MaySit sight others pair to
  fits_onward left mount to None later h = fits_here mount to h
  fits_onward left mount to (Some next) later h = later next h

  fits_walking : (left : ℕ) (mount to : List ℕ) → walk left sight others pair mount ≡ Lands to → MaySit sight others pair to
  fits_walking zero mount to h = cc
  fits_walking (suc left) mount to h = fits_onward left mount to (next_mount sight others mount) (λ m. fits_walking left m to) h

  -- where a walk lands it may sit
  pub lands_where_he_fits : (mount to : List ℕ) → landing sight others pair mount ≡ Lands to → MaySit sight others pair to
  lands_where_he_fits mount to h = fits_walking 10 mount to (walks_ten sight others pair mount ∙ h)

  goes_walking : (where_he_lands : Landing) (to : List ℕ) → walks_on where_he_lands ≡ GoesTo to → where_he_lands ≡ Lands to
  goes_walking (Lands mount) to h = let same : mount ≡ to = cc in ap Lands same
  goes_walking (Stops rule) to h = cc

  goes_asked : (where_he_lands : Landing) (to : List ℕ) → is_asked where_he_lands ≡ GoesTo to → where_he_lands ≡ Lands to
  goes_asked (Lands mount) to h = let same : mount ≡ to = cc in ap Lands same
  goes_asked (Stops rule) to h = cc

  pub goes_where_he_fits : (move : Move) (to : List ℕ) → turn_by sight others pair move ≡ GoesTo to → MaySit sight others pair to
  goes_where_he_fits (Ended mount) to h = lands_where_he_fits mount to (goes_walking (landing sight others pair mount) to h)
  goes_where_he_fits (Up mount) to h = fits_here mount to (goes_asked (landing_here sight others pair mount) to h)
  goes_where_he_fits (To mount destination) to h = fits_here destination to (goes_asked (landing_here sight others pair destination) to h)

-- who is shifted had a seat, which the move concerns, and may sit where it goes
pub record IsShifted (sight : Sight) (move : Move) (seats : List Listener) (id : ℕ) (to : List ℕ) : Type 0 where
  pub seat : Seat
  pub had : seat_of seats id ≡ Some seat
  pub concerned : concerns move seat.mount seat.home ≡ true
  pub fits : MaySit sight (without_listener seats id) seat.pair to

module _ (sight : Sight) (move : Move) (seats : List Listener) (id : ℕ) where
  shifted_by : (to : List ℕ) (seat : Seat) (b : Bool) → concerns move seat.mount seat.home ≡ b → seat_of seats id ≡ Some seat
      → (if b then turn_by sight (without_listener seats id) seat.pair move else Stays) ≡ GoesTo to → IsShifted sight move seats id to
  shifted_by to seat true c e h = record { seat = seat; had = e; concerned = c; fits = goes_where_he_fits sight (without_listener seats id) seat.pair move to h }
  shifted_by to seat false c e h = cc

  shifted_in : (to : List ℕ) (seat : Option Seat) → seat_of seats id ≡ seat → turn_in sight (without_listener seats id) move seat ≡ GoesTo to
      → IsShifted sight move seats id to
  shifted_in to None e h = cc
  shifted_in to (Some seat) e h = shifted_by to seat (concerns move seat.mount seat.home) refl e h

  pub is_shifted : (to : List ℕ) → turn_of sight move seats id ≡ GoesTo to → IsShifted sight move seats id to
  is_shifted to h = shifted_in to (seat_of seats id) refl h
