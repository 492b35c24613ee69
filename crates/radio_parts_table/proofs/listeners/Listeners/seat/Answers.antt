use Rattle.std.proofs.Common.{◌≡◌, Some, None, ap, sym, ◌∙◌}
use Rattle.radio_parts_table.proofs.Words.{unwrap_or, option_map, Seat, seat_of_guest, seat_of, lent_seat, places_in, Listening}
use Rattle.radio_parts_table.proofs.HeardReads.{heard_seat, seat_heard}
use Rattle.radio_parts_table.proofs.listeners.Listeners.seat.Goals as goal

pub returns-in_default : goal.returns-in_default
returns-in_default c =
    let i = c.self.inside in
    let f = places_in i.parts.attached in
    let none : seat_of i.seats.seats c.args.id ≡ None = sym c.seat.ensures ∙ ap (option_map lent_seat) c.in_default.is in
    sym (ap (option_map (heard_seat f c.args.id)) none) ∙ sym (seat_heard f i.seats.seats c.args.id)
    ∙ ap (λ (b : Listening). seat_of b.seats c.args.id) c.self.view_is

pub returns : goal.returns
returns c =
    let i = c.self.inside in
    let f = places_in i.parts.attached in
    let seat = c.in-Some.seat in
    let some : seat_of i.seats.seats c.args.id ≡ Some (lent_seat seat) = sym c.seat.ensures ∙ ap (option_map lent_seat) c.in-Some.is in
    ap (λ (its : Seat). Some its)
    (c.seat_at.ensures ∙ ap (λ found. seat_of_guest (unwrap_or found seat.place) seat.mount.now seat.session seat.guest.now) c.place-heard.ensures)
    ∙ sym (ap (option_map (heard_seat f c.args.id)) some) ∙ sym (seat_heard f i.seats.seats c.args.id)
    ∙ ap (λ (b : Listening). seat_of b.seats c.args.id) c.self.view_is
