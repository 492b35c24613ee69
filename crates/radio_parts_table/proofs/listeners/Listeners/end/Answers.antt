use Rattle.std.proofs.Common.{◌≡◌, Some, None, List, ap, sym, subst, ◌∙◌}
use Rattle.radio_parts_table.proofs.Words.{option_map, lent_seat, SeatTable, Listener, seat_of, with_end, heard, ended_fits, ended_heard, AreAttached, Listening, places_in}
use Rattle.radio_parts_table.proofs.ListenersLemmas.{no_end, same_listening}
use Rattle.radio_parts_table.proofs.listeners.Listeners.end.Goals as goal

pub returns-in_default : goal.returns-in_default
returns-in_default c =
    let i = c.self.inside in
    let none : seat_of i.seats.seats c.args.id ≡ None = sym c.seat.ensures ∙ ap (option_map lent_seat) c.in_default.is in
    subst (λ (b : Listening). b ≡ record { prepared = b.prepared; live = b.live; seats = with_end b.seats c.args.id c.args.rule }) c.self.view_is
    (sym (ap (λ (seats : List Listener). record { prepared = i.seats.prepared; seats = seats; live = i.parts.live }) (no_end (places_in i.parts.attached) c.args.id c.args.rule i.seats.seats none)))

pub returns : goal.returns
returns c =
    let f = places_in c.self.inside.parts.attached in
    let g = places_in c.detach.new.self.attached in
    same_listening
    (ap (λ (b : SeatTable). b.prepared) c.end.ensures ∙ ap (λ (b : Listening). b.prepared) c.self.view_is)
    (ap (λ (b : SeatTable). heard g b.seats) c.end.ensures
    ∙ ended_heard f g c.args.id c.detach.ensures.others c.args.rule c.self.inside.seats.seats c.len.ensures.rising
    ∙ ap (λ (b : Listening). with_end b.seats c.args.id c.args.rule) c.self.view_is)
    (c.detach.ensures.live ∙ ap (λ (b : Listening). b.live) c.self.view_is)

pub invariant_of-self : goal.invariant_of-self
invariant_of-self c =
    let i = c.self.inside in
    let f = places_in i.parts.attached in
    let g = places_in c.detach.new.self.attached in
    let has : seat_of i.seats.seats c.args.id ≡ Some (lent_seat c.in-Some.seat) = sym c.seat.ensures ∙ ap (option_map lent_seat) c.in-Some.is in
    subst (AreAttached c.self.inside.is_whole c.detach.new.self.attached) (sym c.end.ensures) (record {
      parts = λ mount is. c.detach.ensures.parts mount ∙ c.self.invariant.parts mount is;
      fits = λ whole. ended_fits f g c.args.id i.seats.seats (lent_seat c.in-Some.seat) has c.detach.ensures.others c.args.rule c.detach.ensures.off (c.self.invariant.fits whole);
    })
