use Rattle.std.proofs.Common.{refl, ap, sym, subst, ◌∙◌}
use Rattle.radio_parts_table.proofs.Words.{SeatTable, with_session_at, heard, AreAttached, Listening, places_in}
use Rattle.radio_parts_table.proofs.FitsChanges.{fits_alike, given_sits}
use Rattle.radio_parts_table.proofs.HeardChanges.{given_heard}
use Rattle.radio_parts_table.proofs.ListenersLemmas.{same_listening}
use Rattle.radio_parts_table.proofs.listeners.Listeners.give_session.Goals as goal

pub returns : goal.returns
returns c =
    let f = places_in c.self.inside.parts.attached in
    same_listening
    (ap (λ (b : SeatTable). b.prepared) c.give_session.ensures ∙ ap (λ (b : Listening). b.prepared) c.self.view_is)
    (ap (λ (b : SeatTable). heard f b.seats) c.give_session.ensures
    ∙ given_heard f c.args.mount.now c.args.session c.self.inside.seats.seats
    ∙ ap (λ (b : Listening). with_session_at b.seats c.args.mount.now c.args.session) c.self.view_is)
    (ap (λ (b : Listening). b.live) c.self.view_is)

pub invariant_of-self : goal.invariant_of-self
invariant_of-self c =
    let i = c.self.inside in
    let f = places_in i.parts.attached in
    subst (AreAttached i.is_whole i.parts.attached) (sym c.give_session.ensures) (record {
      parts = c.self.invariant.parts;
      fits = λ whole. fits_alike f f i.seats.seats (with_session_at i.seats.seats c.args.mount.now c.args.session) (λ m n. refl)
          (given_sits c.args.mount.now c.args.session i.seats.seats) (c.self.invariant.fits whole);
    })
