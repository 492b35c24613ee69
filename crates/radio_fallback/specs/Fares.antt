-- What a carry keeps, in the words of mounts and seats.
use Rattle.std.specs.Prelude.{◌≡◌, ◌⊎◌, ℕ, ◌≤◌, false, true, List, Some}
use Rattle.radio_seats_rows.specs.declared.seat.Seat.{Seat}
use Rattle.radio_seats_rows.specs.declared.seat.Listener.{Listener}
use Rattle.radio_seats_rows.specs.Seats.{seat_of, count_at, moved, loses, SitsAs}
use Rattle.radio_fallback.specs.declared.moves.MoveEffect.{MoveEffect}
use Rattle.radio_fallback.specs.declared.moves.MoveEffect.TheVariants.{Stays, GoesTo, IsOut}
use Rattle.radio_fallback.specs.Walk.{Sight}

-- no more sit at the mount than may
-- rule: Closed to moves
abbrev pub IsWithinLimit : Sight → List Listener → List ℕ → Type 0
IsWithinLimit sight seats mount = (most : ℕ) → sight.limit mount ≡ Some most → count_at seats mount ≤ most

-- where each user may sit once, nobody sits there twice
-- rule: User twice
abbrev pub SitOnce : Sight → List Listener → List ℕ → Type 0
SitOnce sight seats mount = sight.allows_duplicates mount ≡ false → (user : List ℕ) (id other : ℕ) → SitsAs seats id mount user → SitsAs seats other mount user
    → id ≡ other

-- the seat at the end of a mount's stream; all else of it is as it was
abbrev pub seat_at_end : Sight → List ℕ → Seat → Seat
seat_at_end sight mount seat = record seat { mount = mount; session = (sight.stream_end mount).session; place = (sight.stream_end mount).place }

-- it was carried to the end of the stream of a live mount, which lets it in
pub record IsCarriedTo (sight : Sight) (old seat : Seat) (mount : List ℕ) : Type 0 where
  pub is_live : sight.is_live mount ≡ true
  pub is_let_in : sight.lets_in mount old.pair ≡ true
  pub at_its_end : seat ≡ seat_at_end sight mount old

-- who has this seat had one before: this one, or one from which it was carried here
-- rule: Moved to the end
abbrev pub HadASeat : Sight → List Listener → ℕ → Seat → Type 0
HadASeat sight seats id seat = (old : Seat) × (seat_of seats id ≡ Some old) × ((seat ≡ old) ⊎ ((mount : List ℕ) × IsCarriedTo sight old seat mount))

-- how a listener fares by its turn
abbrev pub fared : Sight → MoveEffect → Listener → Listener
fared sight Stays listener = listener
fared sight (GoesTo mount) listener = moved mount (sight.stream_end mount).session (sight.stream_end mount).place listener
fared sight (IsOut rule) listener = loses rule listener
