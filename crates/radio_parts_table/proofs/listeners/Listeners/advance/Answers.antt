use Rattle.std.proofs.Common.{◌≡◌, Some, None, List, ap, sym, subst, ◌∙◌}
use Rattle.radio_parts_table.proofs.Words.{option_map, lent_seat, SeatTable, Listener, seat_of, with_place, heard, AreAttached, Listening, places_in}
use Rattle.radio_parts_table.proofs.ListenersLemmas.{no_place, same_listening}
use Rattle.radio_parts_table.proofs.PlaceNotes.{after_note, noted_fits}
use Rattle.radio_parts_table.proofs.listeners.Listeners.advance.Goals as goal

pub returns-in_default : goal.returns-in_default
returns-in_default c =
    let i = c.self.inside in
    let none : seat_of i.seats.seats c.args.id ≡ None = sym c.seat.ensures ∙ ap (option_map lent_seat) c.in_default.is in
    subst (λ (b : Listening). b ≡ record { prepared = b.prepared; live = b.live; seats = with_place b.seats c.args.id c.args.place }) c.self.view_is
    (sym (ap (λ (seats : List Listener). record { prepared = i.seats.prepared; seats = seats; live = i.parts.live }) (no_place (places_in i.parts.attached) c.args.id c.args.place i.seats.seats none)))

pub returns : goal.returns
returns c =
    let i = c.self.inside in
    let f = places_in i.parts.attached in
    let g = places_in c.advance.new.self.attached in
    let seat = lent_seat c.in-Some.seat in
    let has : seat_of i.seats.seats c.args.id ≡ Some seat = sym c.seat.ensures ∙ ap (option_map lent_seat) c.in-Some.is in
    same_listening (ap (λ (b : SeatTable). b.prepared) c.note_place.ensures ∙ ap (λ (b : Listening). b.prepared) c.self.view_is)
    (ap (λ (b : SeatTable). heard g b.seats) c.note_place.ensures
    ∙ after_note f g c.args.id c.args.place c.advance.ensures.others seat i.seats.seats has c.advance.ensures.over i.is_whole c.len.ensures.rising
    c.self.invariant.fits c.advance.ensures.there
    ∙ ap (λ (b : Listening). with_place b.seats c.args.id c.args.place) c.self.view_is)
    (c.advance.ensures.live ∙ ap (λ (b : Listening). b.live) c.self.view_is)

pub invariant_of-self : goal.invariant_of-self
invariant_of-self c =
    let i = c.self.inside in
    let f = places_in i.parts.attached in
    let g = places_in c.advance.new.self.attached in
    let seat = lent_seat c.in-Some.seat in
    let has : seat_of i.seats.seats c.args.id ≡ Some seat = sym c.seat.ensures ∙ ap (option_map lent_seat) c.in-Some.is in
    subst (AreAttached i.is_whole c.advance.new.self.attached) (sym c.note_place.ensures) (record {
      parts = λ mount is. c.advance.ensures.parts mount ∙ c.self.invariant.parts mount is;
      fits = noted_fits f g c.args.id c.args.place c.advance.ensures.others seat i.seats.seats has c.advance.ensures.over i.is_whole c.self.invariant.fits;
    })
