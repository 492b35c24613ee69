use Rattle.std.proofs.Common.{◌≡◌, ℕ, true, None, List, ap, sym, subst, ◌∙◌}
use Rattle.radio_parts_table.proofs.Words.{SeatTable, is_prepared, last_mount_of, with_seat, heard, AreAttached, Listening, places_in, ByMount}
use Rattle.radio_parts_table.proofs.FitsChanges.{IsAnew, attached_anew, is_detached, seated_fits}
use Rattle.radio_parts_table.proofs.ListenersLemmas.{has_sat, same_listening}
use Rattle.radio_parts_table.proofs.listeners.Listeners.add.Goals as goal

anew : (c : goal.After-attach)
    → IsAnew c.self.inside.is_whole (places_in c.self.inside.parts.attached) (places_in c.attach.new.self.attached) c.args.id c.args.seat.place c.args.seat.mount
anew c =
    let i = c.self.inside in
    let id = c.args.id in
    let f = places_in i.parts.attached in
    let h = places_in c.detach_from.new.parts.attached in
    let g = places_in c.attach.new.self.attached in
    let last : c.copied-last.result ≡ last_mount_of i.seats.seats id = c.copied-last.ensures ∙ c.last_mount.ensures in
    let off : i.is_whole ≡ true → (m : List ℕ) → h m id ≡ None =
    λ whole. is_detached f h id i.seats.seats (c.self.invariant.fits whole) (λ from is. c.detach_from.ensures.off from (last ∙ is))
    (λ none m. ap (λ (parts : ByMount). places_in parts.attached m id) (c.detach_from.ensures.none (last ∙ none))) in
    let prepared : is_prepared i.seats.prepared c.args.seat.mount ≡ true = ap (λ (b : Listening). is_prepared b.prepared c.args.seat.mount) c.self.view_is ∙ c.requires in
    let boxed : c.in_ok-boxed.boxed ≡ record { id = id; place = c.args.seat.place } =
    c.in_ok-boxed.ensures ∙ ap (λ (n : ℕ). record { id = id; place = n }) c.bytes_before-place.ensures in
    attached_anew i.is_whole f h g id c.args.seat.place c.args.seat.mount c.in_ok-boxed.boxed boxed c.detach_from.ensures.others off c.attach.ensures.others
    (c.attach.ensures.there (c.detach_from.ensures.parts c.args.seat.mount ∙ c.self.invariant.parts c.args.seat.mount prepared)) c.attach.ensures.elsewhere

pub invariant_of-self-2 : goal.invariant_of-self-2
invariant_of-self-2 c =
    let i = c.self.inside in
    subst (AreAttached c.self.inside.is_whole c.attach.new.self.attached) (sym c.in_ok-add.ensures.ok) (record {
      parts = λ mount is. c.attach.ensures.parts mount ∙ c.detach_from.ensures.parts mount ∙ c.self.invariant.parts mount is;
      fits = λ whole. seated_fits (places_in i.parts.attached) (places_in c.attach.new.self.attached) c.args.id c.args.seat.place c.args.seat i.seats.seats (c.self.invariant.fits whole)
          (anew c).others (anew c).there ((anew c).off whole);
    })

pub returns-clause-ok : goal.returns-clause-ok
returns-clause-ok c =
    let f = places_in c.self.inside.parts.attached in
    let g = places_in c.attach.new.self.attached in
    same_listening
    (ap (λ (b : SeatTable). b.prepared) c.in_ok-add.ensures.ok ∙ ap (λ (b : Listening). b.prepared) c.self.view_is)
    (ap (λ (b : SeatTable). heard g b.seats) c.in_ok-add.ensures.ok
    ∙ has_sat f g c.args.id (anew c).others c.args.seat (anew c).there c.self.inside.seats.seats c.len.ensures.rising
    ∙ ap (λ (b : Listening). with_seat b.seats c.args.id c.args.seat) c.self.view_is)
    (c.attach.ensures.live ∙ c.detach_from.ensures.live ∙ ap (λ (b : Listening). b.live) c.self.view_is)
