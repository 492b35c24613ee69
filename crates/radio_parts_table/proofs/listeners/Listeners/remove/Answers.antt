use Rattle.std.proofs.Common.{◌≡◌, ℕ, true, None, List, ap, sym, subst, ◌∙◌}
use Rattle.radio_parts_table.proofs.Words.{SeatTable, last_mount_of, without_listener, heard, AreAttached, Listening, places_in, ByMount}
use Rattle.radio_parts_table.proofs.FitsChanges.{is_detached, left_fits}
use Rattle.radio_parts_table.proofs.ListenersLemmas.{has_left, same_listening}
use Rattle.radio_parts_table.proofs.listeners.Listeners.remove.Goals as goal

pub returns : goal.returns
returns c =
    let f = places_in c.self.inside.parts.attached in
    let g = places_in c.detach_from.new.parts.attached in
    same_listening
    (ap (λ (b : SeatTable). b.prepared) c.remove.ensures ∙ ap (λ (b : Listening). b.prepared) c.self.view_is)
    (ap (λ (b : SeatTable). heard g b.seats) c.remove.ensures
    ∙ has_left f g c.args.id c.detach_from.ensures.others c.self.inside.seats.seats
    ∙ ap (λ (b : Listening). without_listener b.seats c.args.id) c.self.view_is)
    (c.detach_from.ensures.live ∙ ap (λ (b : Listening). b.live) c.self.view_is)

pub invariant_of-self : goal.invariant_of-self
invariant_of-self c =
    let i = c.self.inside in
    let f = places_in i.parts.attached in
    let g = places_in c.detach_from.new.parts.attached in
    let last : c.copied-last.result ≡ last_mount_of i.seats.seats c.args.id = c.copied-last.ensures ∙ c.last_mount.ensures in
    let off : i.is_whole ≡ true → (m : List ℕ) → g m c.args.id ≡ None =
    λ whole. is_detached f g c.args.id i.seats.seats (c.self.invariant.fits whole) (λ from is. c.detach_from.ensures.off from (last ∙ is))
    (λ none m. ap (λ (parts : ByMount). places_in parts.attached m c.args.id) (c.detach_from.ensures.none (last ∙ none))) in
    subst (AreAttached c.self.inside.is_whole c.detach_from.new.parts.attached) (sym c.remove.ensures) (record {
      parts = λ mount is. c.detach_from.ensures.parts mount ∙ c.self.invariant.parts mount is;
      fits = λ whole. left_fits f g c.args.id i.seats.seats (c.self.invariant.fits whole) c.detach_from.ensures.others (off whole);
    })
