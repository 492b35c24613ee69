use Rattle.std.proofs.Common.{◌≡◌, Some, None, ap, sym, ◌∙◌}
use Rattle.radio_parts_table.proofs.Words.{unwrap_or, option_map, session_of, Seat, seat_of_guest, seat_of, lent_seat, places_in, Listening}
use Rattle.radio_parts_table.proofs.HeardReads.{heard_seat, seat_heard}
use Rattle.radio_parts_table.proofs.listeners.Listeners.hearing.Goals as goal

pub returns-in_default : goal.returns-in_default
returns-in_default c =
    let i = c.self.inside in
    let f = places_in i.parts.attached in
    let none : seat_of i.seats.seats c.args.id ≡ None = sym c.seat.ensures ∙ ap (option_map lent_seat) c.in_default.is in
    sym (ap (λ (b : Listening). seat_of b.seats c.args.id) c.self.view_is) ∙ seat_heard f i.seats.seats c.args.id
    ∙ ap (option_map (heard_seat f c.args.id)) none

pub returns : goal.returns
returns c =
    let i = c.self.inside in
    let f = places_in i.parts.attached in
    let seat = c.in-Some.seat in
    let found = c.place_and_session-heard.ensures in
    let some : seat_of i.seats.seats c.args.id ≡ Some (lent_seat seat) = sym c.seat.ensures ∙ ap (option_map lent_seat) c.in-Some.is in (
      sym (ap (λ (b : Listening). seat_of b.seats c.args.id) c.self.view_is) ∙ seat_heard f i.seats.seats c.args.id
          ∙ ap (option_map (heard_seat f c.args.id)) some
          ∙ sym (ap (λ (its : Seat). Some its)
          (c.seat_at.ensures ∙ ap (λ attached. seat_of_guest (unwrap_or attached seat.place) seat.mount.now seat.session seat.guest.now) found.place)),
      found.session ∙ ap (λ (b : Listening). session_of b.live seat.mount.now) c.self.view_is
          ∙ sym (ap (λ (its : Seat). session_of c.args.self.now.live its.mount) c.seat_at.ensures),
    )
