-- a draw depends on the listener's seat, and on the session at its mount
use Rattle.std.proofs.Common.{◌≡◌, ℕ, Option, None, Some, refl, ap}
use Rattle.radio_parts.proofs.Words.{option_map_or, Seat, seat_of, Stray, StationState, heard_at, World, standing_of, Nothing, Outcome, hands_out, draws_from, draws, says, if_sitting}

abbrev pub hands_out_at : StationState → ℕ → ℕ → Option Seat → Outcome
hands_out_at station id room None = says Stray Nothing
hands_out_at station id room (Some seat) = hands_out id seat room (heard_at station seat.mount)

pub draws_so : (w : World) (id room : ℕ) → draws w id room ≡ if_sitting (standing_of w id) (hands_out_at w.station id room (seat_of w.seats id))
draws_so w id room = ap (if_sitting (standing_of w id)) (by_seat (seat_of w.seats id) refl) where
  by_seat : (found : Option Seat) → seat_of w.seats id ≡ found
      → option_map_or (draws_from w id room) found (says Stray Nothing) ≡ hands_out_at w.station id room found
  by_seat None none = refl
  by_seat (Some seat) has = ap (λ (his : Option Seat). option_map_or (λ his. hands_out id his room (heard_at w.station seat.mount)) his (says Stray Nothing)) has
