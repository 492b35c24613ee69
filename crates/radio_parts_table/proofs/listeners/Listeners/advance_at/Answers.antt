use Rattle.std.proofs.Common.{ℕ, List, ap, sym, subst, ◌∙◌}
use Rattle.radio_parts_table.proofs.Words.{SeatTable, sits_at, with_place, heard, GoesOver, IsAt, AreAttached, Listening, places_in}
use Rattle.radio_parts_table.proofs.ListenersLemmas.{its_seat, same_listening}
use Rattle.radio_parts_table.proofs.PlaceNotes.{after_note, noted_fits}
use Rattle.radio_parts_table.proofs.listeners.Listeners.advance_at.Goals as goal

pub returns : goal.returns
returns c =
    let i = c.self.inside in
    let f = places_in i.parts.attached in
    let g = places_in c.advance.new.self.attached in
    let its = its_seat f c.args.id c.args.mount.now i.seats.seats (ap (λ (b : Listening). sits_at b.seats c.args.id c.args.mount.now) c.self.view_is ∙ c.requires) in
    let over = subst (λ (m : List ℕ). GoesOver f g c.args.id m m) (sym its.2) c.advance.ensures.over in
    let there = subst (λ (m : List ℕ). IsAt (g m c.args.id) c.args.place) (sym its.2) c.advance.ensures.there in
    same_listening (ap (λ (b : SeatTable). b.prepared) c.note_place.ensures ∙ ap (λ (b : Listening). b.prepared) c.self.view_is)
    (ap (λ (b : SeatTable). heard g b.seats) c.note_place.ensures
    ∙ after_note f g c.args.id c.args.place c.advance.ensures.others its.0 i.seats.seats its.1 over i.is_whole c.len.ensures.rising c.self.invariant.fits there
    ∙ ap (λ (b : Listening). with_place b.seats c.args.id c.args.place) c.self.view_is)
    (c.advance.ensures.live ∙ ap (λ (b : Listening). b.live) c.self.view_is)

pub invariant_of-self : goal.invariant_of-self
invariant_of-self c =
    let i = c.self.inside in
    let f = places_in i.parts.attached in
    let g = places_in c.advance.new.self.attached in
    let its = its_seat f c.args.id c.args.mount.now i.seats.seats (ap (λ (b : Listening). sits_at b.seats c.args.id c.args.mount.now) c.self.view_is ∙ c.requires) in
    let over = subst (λ (m : List ℕ). GoesOver f g c.args.id m m) (sym its.2) c.advance.ensures.over in
    subst (AreAttached i.is_whole c.advance.new.self.attached) (sym c.note_place.ensures) (record {
      parts = λ mount is. c.advance.ensures.parts mount ∙ c.self.invariant.parts mount is;
      fits = noted_fits f g c.args.id c.args.place c.advance.ensures.others its.0 i.seats.seats its.1 over i.is_whole c.self.invariant.fits;
    })
