use Rattle.std.proofs.Common.{◌<◌, ap, sym, subst, ◌∙◌, arith}
use Rattle.radio_seats.proofs.Words.{option_copied, SeatTable, passes_in, passes_at, name_of, name_in, sitting_of, how_many}
use Rattle.radio_seats.proofs.TestedRows.{none_pass, passes_seated, some_pass, some_sit}
use Rattle.radio_seats.proofs.seats.Seats.first_mount_where.Goals as goal

pub returns-in_default : goal.returns-in_default
returns-in_default g c =
    let p = g.T.SeatTest.passes c.args.test.now in
    ap (λ (b : SeatTable). how_many (passes_in p) b.seats) (sym c.self.view_is)
    ∙ none_pass p (name_in c.self.inside.mounts.mounts) c.self.inside.rows (sym c.first_where.ensures ∙ ap option_copied c.in_default.is)

-- who passes sits
pub unreachable-requires : goal.unreachable-requires
unreachable-requires g c =
    passes_seated (g.T.SeatTest.passes c.args.test.now) c.self.inside.rows c.in-Some.row.now (sym c.first_where.ensures ∙ ap option_copied c.in-Some.is)
    (sym c.mount.ensures ∙ c.in_default-mount.is)

-- at a mount that is there
pub unreachable-requires-in-None : goal.unreachable-requires-in-None
unreachable-requires-in-None g c =
    let p = g.T.SeatTest.passes c.args.test.now in
    let rows = c.self.inside.rows in
    let found = sym c.first_where.ensures ∙ ap option_copied c.in-Some.is in
    let none = ap sitting_of (sym c.get.ensures ∙ ap option_copied c.in-None.is) in
    let some = some_sit p (name_in c.self.inside.mounts.mounts) rows c.in-Some.row.now c.in-Some-mount.number found (sym c.mount.ensures ∙ c.in-Some-mount.is) in
    absurd (omega (arith, none, some, c.self.invariant.counted.sitting c.in-Some-mount.number))

pub returns : goal.returns
returns g c =
    let p = g.T.SeatTest.passes c.args.test.now in
    let rows = c.self.inside.rows in
    let name = name_in c.self.inside.mounts.mounts in
    let found = sym c.first_where.ensures ∙ ap option_copied c.in-Some.is in
    let called = ap name_of (sym c.get.ensures ∙ ap option_copied c.in-Some-get.is) in
    let mount = c.in-Some-get.mount.now.name in
    subst (λ (b : SeatTable). 0 < how_many (passes_at mount p) b.seats) c.self.view_is
    (some_pass p name rows c.in-Some.row.now c.in-Some-mount.number found (sym c.mount.ensures ∙ c.in-Some-mount.is) mount called)
