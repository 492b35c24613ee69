-- How far each listener has heard, if that is kept apart from the seats, at the mount where it is attached.
use Rattle.std.specs.Prelude.{◌≡◌, ◌⊎◌, ℕ, true, false, ◌==◌, List, Option, None, Some, map, unwrap_or, is_some}
use Rattle.std.specs.Str.{bytes_eq}
use Rattle.radio_seats_rows.specs.Seats.{sits_at}
use Rattle.radio_seats_rows.specs.declared.seat.Listener.{Listener}
use Rattle.radio_seats_rows.specs.declared.seat.Seating.{Seating}
use Rattle.radio_seats_rows.specs.declared.seat.Seating.TheVariants.{Sits, Finished}

-- how far the listener of a number has heard at a mount, if it is attached there
abbrev pub Heard : Type 0
Heard = List ℕ → ℕ → Option ℕ

-- a listener that is attached where it sits has heard so far; else as far as its seat says
abbrev pub heard_seating : Heard → ℕ → Seating → Seating
heard_seating f id (Sits seat) = Sits (record seat { place = unwrap_or (f seat.mount id) seat.place })
heard_seating f id (Finished rule mount) = Finished rule mount

abbrev pub heard_by : Heard → Listener → Listener
heard_by f listener = record listener { seating = heard_seating f listener.id listener.seating }

abbrev pub heard : Heard → List Listener → List Listener
heard f seats = map (heard_by f) seats

-- all others are attached as before, and have heard as far
abbrev pub OthersStay : Heard → Heard → ℕ → Type 0
OthersStay f g id = (mount : List ℕ) (other : ℕ) → (id == other) ≡ false → g mount other ≡ f mount other

-- it is attached at this place, or not at all
abbrev pub IsAt : Option ℕ → ℕ → Type 0
IsAt found place = (found ≡ None) ⊎ (found ≡ Some place)

-- attached to a mount is who sits there, and nobody else
abbrev pub Fits : Heard → List Listener → Type 0
Fits f seats = (mount : List ℕ) (id : ℕ) → is_some (f mount id) ≡ sits_at seats id mount

-- a listener that was attached to the one mount is attached to the other, and nowhere else
pub record GoesOver (f g : Heard) (id : ℕ) (from to : List ℕ) : Type 0 where
  pub here : is_some (f from id) ≡ true → is_some (g to id) ≡ true
  pub gone : bytes_eq to from ≡ false → g from id ≡ None
  pub elsewhere : (mount : List ℕ) → bytes_eq from mount ≡ false → bytes_eq to mount ≡ false → g mount id ≡ f mount id

-- it is attached to the mount no more
pub record GoesOff (f g : Heard) (id : ℕ) (from : List ℕ) : Type 0 where
  pub gone : g from id ≡ None
  pub elsewhere : (mount : List ℕ) → bytes_eq from mount ≡ false → g mount id ≡ f mount id
