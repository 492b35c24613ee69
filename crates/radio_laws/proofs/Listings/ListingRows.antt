-- what the rows of listings say
use Rattle.std.proofs.Common.{◌≡◌, ℕ, Bool, true, false, Option, Some, List, [], ◌∷◌, refl, ap, ◌∙◌, arith}
use Rattle.radio_laws.proofs.Words.{map, option_map, option_map_or, bytes_eq, Credentials, options_for, Listener, Seat, Seating, Finished, guests_at, seats_at, ListedListener, Listing, Status, Stats, Mounts, Clients}
use Rattle.radio_laws.proofs.Words.{Streams, fallback_of, Fallback, shown, row_of_session, mount_rows, listener_row, listener_rows, seconds_since, user_of, Session, World, TellsOf, TellOf, TellsOfListener}
use Rattle.radio_laws.proofs.Words.{TellOfListeners, Tells, FallsBack, ByTheSettings, ByACommand}
use Rattle.radio_seats_rows.specs.declared.seat.Seating.TheVariants.{Sits}
use Rattle.radio_laws.proofs.Seats.WalkLemmas.{falls_back}

module _ (w : World) where
  -- the mount to which listeners of this one fall back is its fallback
  falls_to : (mount next : List ℕ) → FallsBack w mount next → fallback_of w.station mount ≡ Some next
  falls_to mount next (ByTheSettings goes none) =
      ap (λ (found : Option Fallback). option_map_or (λ (set : Fallback). set.fallback) found (options_for w.station.settings mount).listeners.fallback_mount) none
      ∙ goes
  falls_to mount next (ByACommand set found goes) =
      ap (λ (found : Option Fallback). option_map_or (λ (set : Fallback). set.fallback) found (options_for w.station.settings mount).listeners.fallback_mount) found
      ∙ goes

  tells_of : (fed : Session) → TellsOf w fed (row_of_session w fed)
  tells_of fed = record {
    mount = refl;
    name = refl;
    genre = refl;
    content_type = refl;
    title = refl;
    listeners = refl;
    about = refl;
    hidden = refl;
    session = refl;
    fallback = λ next. (falls_to fed.mount next, falls_back w fed.mount next);
  }

  tell_of : (live : List Session) → TellOf w live (map (row_of_session w) live)
  tell_of [] = tt
  tell_of (fed ∷ live) = (tells_of fed, tell_of live)

  -- a user is that of the pair
  user_sent : (sent : Option Credentials) (pair : Credentials) → sent ≡ Some pair → option_map user_of sent ≡ Some pair.user
  user_sent sent pair e = ap (option_map user_of) e

  tells_listener : (id : ℕ) (seat : Seat) → TellsOfListener w (record { id = id; seating = Sits seat })
      (record {
        home = seat.home;
        id = id;
        peer = seat.peer;
        seconds = seconds_since seat.since w.station.time;
        user = option_map user_of seat.pair;
      })
  tells_listener id seat = record {
    id = refl;
    seat = seat;
    sits = refl;
    home = refl;
    peer = refl;
    seconds_past = grind arith;
    no_more = grind arith;
    user = user_sent seat.pair;
    nobody = λ e. ap (option_map user_of) e;
  }

  abbrev rows_at : List Listener → List ℕ → List ListedListener
  rows_at seats mount = map (listener_row w.station.time) (guests_at seats mount)

  -- each listener that sits there has its row
  module _ (mount : List ℕ) (listener : Listener) (seats : List Listener) (rest : TellOfListeners w (seats_at seats mount) (rows_at seats mount)) where
    by_mount : (seat : Seat) (here : Bool) → listener.seating ≡ Sits seat → bytes_eq seat.mount mount ≡ here
        → TellOfListeners w (seats_at (listener ∷ seats) mount) (rows_at (listener ∷ seats) mount)
    by_mount seat true e at =
        rw (e, at) (tells_listener listener.id seat, rest)
    by_mount seat false e at = rw (e, at) rest

    tell_first : (seating : Seating) → listener.seating ≡ seating → TellOfListeners w (seats_at (listener ∷ seats) mount) (rows_at (listener ∷ seats) mount)
    tell_first (Finished rule last) e = rw e rest
    tell_first (Sits seat) e = by_mount seat (bytes_eq seat.mount mount) e refl

  tell_listeners : (mount : List ℕ) (seats : List Listener) → TellOfListeners w (seats_at seats mount) (rows_at seats mount)
  tell_listeners mount [] = tt
  tell_listeners mount (listener ∷ seats) = tell_first mount listener seats (tell_listeners mount seats) listener.seating refl

  pub rows_tell : TellOf w w.station.live (mount_rows w)
  rows_tell = tell_of w.station.live

  -- a listing shows the present state
  pub tells : (listing : Listing) → Tells w listing (shown w listing)
  tells Status = (mount_rows w, rows_tell, refl)
  tells Stats = (mount_rows w, rows_tell, refl)
  tells Mounts = (mount_rows w, rows_tell, refl)
  tells (Clients mount) = (listener_rows w mount, tell_listeners mount w.seats, refl)
  tells Streams = (mount_rows w, rows_tell, refl)
