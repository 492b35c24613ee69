use Rattle.std.proofs.Common.{◌<◌, ap, sym, subst, ◌∙◌}
use Rattle.radio_parts_table.proofs.Words.{passes_in, how_many, with_ended, all_have_ended, end_at_one, fewer_left, Listening, Listening}
use Rattle.radio_parts_table.proofs.ListenersLemmas.{same_listening}
use Rattle.radio_parts_table.proofs.listeners.Listeners.finish_if.Goals as goal

pub mounts-smaller : goal.mounts-smaller
mounts-smaller g c =
    let p = g.T.SeatTest.passes c.args.test.now in
    subst (λ (b : Listening). how_many (passes_in p) b.seats < how_many (passes_in p) c.mounts.self.seats) (sym c.finish_at_if.ensures.seats)
    (fewer_left p c.args.rule c.in-Some.mount c.mounts.self.seats c.in-Some.ensures)

pub mounts-preserved : goal.mounts-preserved
mounts-preserved g c =
    let p = g.T.SeatTest.passes c.args.test.now in (
      ap (λ (b : Listening). b.prepared) c.finish_at_if.ensures.seats ∙ c.mounts.invariant.0,
      ap (λ (b : Listening). with_ended b.seats (passes_in p) c.args.rule) c.finish_at_if.ensures.seats
          ∙ end_at_one p c.args.rule c.in-Some.mount c.mounts.self.seats ∙ c.mounts.invariant.1,
      ap (λ (b : Listening). b.live) c.finish_at_if.ensures.seats ∙ c.mounts.invariant.2,
    )

pub returns : goal.returns
returns g c =
    let p = g.T.SeatTest.passes c.args.test.now in
    same_listening c.mounts.invariant.0 (sym (all_have_ended p c.args.rule c.mounts.self.seats c.in_default.ensures) ∙ c.mounts.invariant.1) c.mounts.invariant.2
