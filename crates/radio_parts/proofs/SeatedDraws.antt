-- the outcome of a draw, by a client with a seat and by a client without one
use Rattle.std.proofs.Common.{◌≡◌, ℕ, List, Option, None, Some, refl, ap, sym, ◌∙◌}
use Rattle.radio_parts.proofs.Words.{Listener, Seat, seat_of, StationState, heard_at, World, standing_of, Standing, Unknown, Undecided, Feeds, Sits, Answered, Finished, Nothing, session_of, Outcome, MayDraw, hands_out}
use Rattle.radio_parts.proofs.Words.{draws, if_sitting, out_of_place}
use Rattle.radio_parts_mount.specs.Steps.{IsKept}
use Rattle.radio_parts.proofs.DrawLemmas.{hands_out_at, draws_so}

-- a client with a seat draws the data at its place
draws_at : (s : Standing) (found : Option Seat) (station : StationState) (id room : ℕ) (seat : Seat) → s ≡ Sits → found ≡ Some seat
    → if_sitting s (hands_out_at station id room found) ≡ hands_out id seat room (heard_at station seat.mount)
draws_at s found station id room seat sits has = rw (sits, has) refl

pub draws_seated : (w : World) (id room : ℕ) (seat : Seat) → standing_of w id ≡ Sits → seat_of w.seats id ≡ Some seat
    → draws w id room ≡ hands_out id seat room (heard_at w.station seat.mount)
draws_seated w id room seat sits has =
    draws_so w id room ∙ draws_at (standing_of w id) (seat_of w.seats id) w.station id room seat sits has

-- what was worked out from the seat and the session that were looked up is the draw
pub drawn_so : (w : World) (id room : ℕ) (seats : List Listener) (seat : Seat) (o : Outcome) → seats ≡ w.seats → seat_of seats id ≡ Some seat → MayDraw w id
    → (IsKept (session_of w.station.live seat.mount) seat.place → o ≡ hands_out id seat room (heard_at w.station seat.mount)) → draws w id room ≡ o
drawn_so w id room seats seat o same found can worked =
    let has : seat_of w.seats id ≡ Some seat = ap (λ (all : List Listener). seat_of all id) (sym same) ∙ found in
    draws_seated w id room seat (can.sits seat has) has ∙ sym (worked (can.kept seat has))

-- a draw without a seat is out of place
draws_by : (s : Standing) (station : StationState) (id room : ℕ) → if_sitting s (hands_out_at station id room None) ≡ out_of_place s
draws_by Unknown station id room = refl
draws_by (Undecided peer) station id room = refl
draws_by (Feeds mount) station id room = refl
draws_by Sits station id room = refl
draws_by Answered station id room = refl
draws_by (Finished rule) station id room = refl

pub draws_seatless : (w : World) (id room : ℕ) → seat_of w.seats id ≡ None → draws w id room ≡ out_of_place (standing_of w id)
draws_seatless w id room none =
    draws_so w id room ∙ ap (λ (found : Option Seat). if_sitting (standing_of w id) (hands_out_at w.station id room found)) none
    ∙ draws_by (standing_of w id) w.station id room

-- and stays where it is
pub stays_out : (s : Standing) → (out_of_place s).change ≡ Nothing
stays_out Unknown = refl
stays_out (Undecided peer) = refl
stays_out (Feeds mount) = refl
stays_out Sits = refl
stays_out Answered = refl
stays_out (Finished rule) = refl
