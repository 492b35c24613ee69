use Rattle.std.proofs.Common.{◌≡◌, None, Some, IfOk, List, ap, sym, subst, ◌∙◌}
use Rattle.radio_parts.proofs.Words.{Listener, seat_of, lent_seat, Outcome, comes_to}
use Rattle.radio_parts.proofs.SeatedDraws.{draws_seated, draws_seatless}
use Rattle.radio_parts.proofs.control.Control.draw.Goals as goal

pub returns-in-Some : goal.returns-in-Some
returns-in-Some c can =
    let w = c.args.self.now in
    let seat = lent_seat c.in-Some.hearing.seat in
    let has : seat_of w.seats c.args.id ≡ Some seat
    = ap (λ (seats : List Listener). seat_of seats c.args.id) (sym c.seats.ensures.seats) ∙ c.in-Some.ensures.0 in
    subst (λ (o : Outcome). IfOk c.hand_out.result (λ drawing. comes_to c.args.id drawing ≡ o))
    (sym (draws_seated w c.args.id c.args.room seat (can.sits seat has) has)) (c.hand_out.ensures (can.kept seat has))

pub returns-in-None : goal.returns-in-None
returns-in-None c can =
    let w = c.args.self.now in
    let none : seat_of w.seats c.args.id ≡ None
    = ap (λ (seats : List Listener). seat_of seats c.args.id) (sym c.seats.ensures.seats) ∙ c.in-None.ensures in
    c.draw_without_seat.ensures ∙ sym (draws_seatless w c.args.id c.args.room none)
