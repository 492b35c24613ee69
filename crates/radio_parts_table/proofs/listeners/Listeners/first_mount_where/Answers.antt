use Rattle.std.proofs.Common.{◌≡◌, ◌<◌, subst}
use Rattle.radio_parts_table.proofs.Words.{MatchOption, passes_in, passes_at, how_many, places_in, Listening}
use Rattle.radio_parts_table.proofs.ListenersLemmas.{some_heard}
use Rattle.radio_parts_table.proofs.listeners.Listeners.first_mount_where.Goals as goal

pub returns : goal.returns
returns g c =
    let i = c.self.inside in
    let p = g.T.SeatTest.passes c.args.test.now in
    subst (λ (b : Listening). MatchOption c.first_mount_where.result (how_many (passes_in p) b.seats ≡ 0) (λ mount. 0 < how_many (passes_at mount p) b.seats)) c.self.view_is
    (some_heard (places_in i.parts.attached) p i.seats.seats c.first_mount_where.result c.first_mount_where.ensures)
