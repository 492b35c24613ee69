use Rattle.std.proofs.Common.{ap, sym, ◌∙◌}
use Rattle.radio_seats.proofs.Words.{SeatTable, named_at}
use Rattle.radio_seats.proofs.RowCounts.{none_names, none_sits}
use Rattle.radio_seats.proofs.RowLemmas.{shown_still}
use Rattle.radio_seats.proofs.seats.Seats.release.Goals as goal

pub release-requires-clause-sitting : goal.release-requires-clause-sitting
release-requires-clause-sitting c =
    let none = ap (λ (b : SeatTable). named_at b.seats c.args.mount.now) c.self.view_is ∙ sym c.named_at.ensures ∙ c.if-named_at-eq0.true in
    none_sits c.self.inside.mounts.mounts c.self.inside.rows c.args.mount.now c.self.invariant.counted none

pub release-requires-clause-naming : goal.release-requires-clause-naming
release-requires-clause-naming c =
    let none = ap (λ (b : SeatTable). named_at b.seats c.args.mount.now) c.self.view_is ∙ sym c.named_at.ensures ∙ c.if-named_at-eq0.true in
    none_names c.self.inside.mounts.mounts c.self.inside.rows c.args.mount.now c.self.invariant.counted none

pub returns-then-named_at-eq0-clause-seats : goal.returns-then-named_at-eq0-clause-seats
returns-then-named_at-eq0-clause-seats c =
    shown_still c.self.inside.mounts.mounts c.release.new.self.mounts c.self.inside.rows c.self.invariant.counted c.release.ensures.names
    ∙ ap (λ (b : SeatTable). b.seats) c.self.view_is
