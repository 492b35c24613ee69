use Rattle.std.proofs.Common.{◌≡◌, ℕ, Bool, List, ap, sym, subst, ◌∙◌}
use Rattle.radio_parts_table.proofs.Words.{map, Attachment, lags_behind, Lagged, SeatTable, with_ended, heard, AreAttached, Listening, places_in, ended_if_lost, is_among, ByMount, MountAttachments}
use Rattle.radio_parts_table.proofs.FitsChanges.{after_losses, lost_fits}
use Rattle.radio_parts_table.proofs.LaggingLemmas.{far, lost, later, is_lost, places_there, places_elsewhere, parts_stay}
use Rattle.radio_parts_table.proofs.ListenersLemmas.{have_lagged, same_listening}
use Rattle.radio_parts_table.proofs.listeners.Listeners.end_lagging.Goals as goal

-- the attachments that are left, and the listeners who have lost their seats
abbrev rest : goal.After-end_each → List MountAttachments
rest c = later c.args.end c.args.queue c.args.mount.now c.self.inside.parts.attached c.take_lagging-lagging.ensures.once

abbrev gone : goal.After-end_each → ℕ → Bool
gone c = lost c.args.end c.args.queue c.args.mount.now c.self.inside.parts.attached c.take_lagging-lagging.ensures.once

left : (c : goal.After-end_each) → c.end_each.new.seats ≡ record {
  prepared = c.self.inside.seats.prepared;
  seats = after_losses (places_in c.self.inside.parts.attached) (places_in (rest c)) c.args.mount.now (gone c) Lagged c.self.inside.seats.seats;
}
left c =
    c.end_each.ensures.seats
    ∙ ap (λ (rows : List Attachment). record {
      prepared = c.self.inside.seats.prepared;
      seats = map (ended_if_lost (is_among rows) Lagged) c.self.inside.seats.seats;
    }) c.take_lagging-lagging.ensures.lagging

pub invariant_of-self : goal.invariant_of-self
invariant_of-self c =
    let i = c.self.inside in
    let mount = c.args.mount.now in
    let order = c.take_lagging-lagging.ensures.once in
    subst (λ (parts : ByMount). AreAttached i.is_whole parts.attached c.end_each.new.seats) (sym c.take_lagging-lagging.ensures.rest)
    (subst (AreAttached i.is_whole (rest c)) (sym (left c)) (record {
      parts = λ m prepared. parts_stay c.args.end c.args.queue mount i.parts.attached order m ∙ c.self.invariant.parts m prepared;
      fits = λ whole. lost_fits (places_in i.parts.attached) (places_in (rest c)) mount (gone c) Lagged i.seats.seats (far c.args.end c.args.queue)
          (is_lost c.args.end c.args.queue mount i.parts.attached order) (places_there c.args.end c.args.queue mount i.parts.attached order)
          (λ m n apart. places_elsewhere c.args.end c.args.queue mount i.parts.attached order m n apart) (c.self.invariant.fits whole);
    }))

pub returns : goal.returns
returns c =
    let i = c.self.inside in
    let end = c.args.end in
    let queue = c.args.queue in
    let mount = c.args.mount.now in
    let order = c.take_lagging-lagging.ensures.once in
    same_listening
    (ap (λ (b : SeatTable). b.prepared) (left c) ∙ ap (λ (b : Listening). b.prepared) c.self.view_is)
    (ap (λ (parts : ByMount). heard (places_in parts.attached) c.end_each.new.seats.seats) c.take_lagging-lagging.ensures.rest
    ∙ ap (λ (b : SeatTable). heard (places_in (rest c)) b.seats) (left c)
    ∙ have_lagged (places_in i.parts.attached) (places_in (rest c)) mount end queue (gone c) Lagged i.seats.seats c.end_each.ensures.rising (c.self.invariant.fits c.if-not-self.false)
    (is_lost end queue mount i.parts.attached order) (places_there end queue mount i.parts.attached order)
    (λ m n apart. places_elsewhere end queue mount i.parts.attached order m n apart)
    ∙ ap (λ (b : Listening). with_ended b.seats (lags_behind mount end queue) Lagged) c.self.view_is)
    (ap (λ (parts : ByMount). parts.live) c.take_lagging-lagging.ensures.rest ∙ ap (λ (b : Listening). b.live) c.self.view_is)
