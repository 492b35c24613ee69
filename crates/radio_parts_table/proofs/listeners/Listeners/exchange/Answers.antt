use Rattle.std.proofs.Common.{◌≡◌, [], List, not, ap, sym, subst, ◌∙◌}
use Rattle.radio_parts_table.proofs.Words.{filter, map, Attachment, Lagged, SeatTable, is_prepared, sits_at, is_among, MountPart, IsExchanged, IsUnfit, Listening, listening, IsLent, ended_if_lost}
use Rattle.radio_parts_table.proofs.LentLemmas.{has_part_still, is_lent}
use Rattle.radio_parts_table.proofs.listeners.Listeners.exchange.Goals as goal
use Rattle.radio_parts_table.proofs.listeners.Listeners.exchange.Goals.{After-end_each}

is_put : (c : After-end_each) → IsExchanged (record c.args.part { lagged = [] }) c.in-Ok.there c.self.inside.parts c.exchange.new.self
is_put c =
    subst (λ (part : MountPart). IsExchanged part c.in-Ok.there c.self.inside.parts c.exchange.new.self) c.take_lagged-lagged.ensures.part c.in-Ok.ensures.ok

abbrev after_losses : After-end_each → List Attachment → SeatTable
after_losses c lost = record {
  prepared = c.self.inside.seats.prepared;
  seats = map (ended_if_lost (is_among lost) Lagged) c.self.inside.seats.seats;
}

left : (c : After-end_each) → c.end_each.new.seats
    ≡ after_losses c (filter (λ (row : Attachment). not (not (sits_at c.self.inside.seats.seats row.id c.args.part.mount))) c.args.part.lagged)
left c =
    c.end_each.ensures.seats
    ∙ ap (after_losses c) (c.sitters_among-lost.ensures
    ∙ ap (λ (part : MountPart). filter (λ (row : Attachment). not (not (sits_at c.self.inside.seats.seats row.id part.mount))) c.take_lagged-lagged.result)
    c.part.ensures
    ∙ ap (filter (λ (row : Attachment). not (not (sits_at c.self.inside.seats.seats row.id c.args.part.mount)))) c.take_lagged-lagged.ensures.lagged)

pub invariant_of-self : goal.invariant_of-self
invariant_of-self c = record {
  parts = λ mount prepared.
      has_part_still c.args.part c.in-Ok.there c.self.inside.parts c.exchange.new.self (is_put c) c.self.inside.seats.seats c.end_each.ensures.rising mount
      (c.self.invariant.parts mount (sym (ap (λ (b : SeatTable). is_prepared b.prepared mount) (left c)) ∙ prepared));
  fits = λ whole. cc;
}

pub returns-in-Ok-clause-ok : goal.returns-in-Ok-clause-ok
returns-in-Ok-clause-ok c =
    let i = c.self.inside in
    subst (λ (b : Listening). IsLent c.args.part c.in-Ok.there b (listening c.exchange.new.self c.end_each.new.seats)) c.self.view_is
    (subst (λ (board : SeatTable). IsLent c.args.part c.in-Ok.there (listening i.parts i.seats) (listening c.exchange.new.self board)) (sym (left c))
    (is_lent c.args.part c.in-Ok.there i.parts c.exchange.new.self (is_put c) i.seats.seats c.end_each.ensures.rising i.seats.prepared))

pub returns-in-Err-clause-unfit : goal.returns-in-Err-clause-unfit
returns-in-Err-clause-unfit c =
    subst (λ (b : Listening). IsUnfit c.args.part b.live) c.self.view_is
    (subst (λ (part : MountPart). IsUnfit part c.self.inside.parts.live) c.take_lagged-lagged.ensures.part c.in-Err.ensures.unfit)
