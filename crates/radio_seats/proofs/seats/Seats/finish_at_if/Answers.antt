use Rattle.std.proofs.Common.{◌≡◌, ◌∙◌, ap, sym, subst, refl}
use Rattle.radio_seats.proofs.Words.{map, SeatTable, passes_at, is_number, name_in, named, FitRows, with_ended, how_many}
use Rattle.radio_seats.proofs.KeptRows.{kept_ended_where}
use Rattle.radio_seats.proofs.RowLemmas.{all_end_there, none_end_there, nobody_ends, none_to_end, how_many_there, same_table, shown_same}
use Rattle.radio_seats.proofs.RowCounts.{counted_ended}
use Rattle.radio_seats.proofs.seats.Seats.finish_at_if.Goals as goal

pub returns-in_default-clause-seats : goal.returns-in_default-clause-seats
returns-in_default-clause-seats g c =
    let p = g.T.SeatTest.passes c.args.test.now in
    let mounts = c.self.inside.mounts in
    let name = name_in mounts.mounts in
    let mount = c.args.mount.now in
    subst (λ (b : SeatTable). b ≡ record b { seats = with_ended b.seats (passes_at mount p) c.args.rule }) c.self.view_is
    (same_table mounts.names mounts.names _ _ refl
    (nobody_ends name mount (λ k. c.number.ensures.only k ∙ ap (λ n. is_number n k) c.in_default.is) p c.args.rule c.self.inside.rows))

pub returns-then-count-eq0-clause-seats : goal.returns-then-count-eq0-clause-seats
returns-then-count-eq0-clause-seats g c =
    let p = g.T.SeatTest.passes c.args.test.now in
    let mounts = c.self.inside.mounts in
    let name = name_in mounts.mounts in
    let mount = c.args.mount.now in
    subst (λ (b : SeatTable). b ≡ record b { seats = with_ended b.seats (passes_at mount p) c.args.rule }) c.self.view_is
    (same_table mounts.names mounts.names _ _ refl
    (none_end_there name mount c.in-Some.number (λ k. c.number.ensures.only k ∙ ap (λ n. is_number n k) c.in-Some.is) p c.args.rule c.self.inside.rows
    c.count_where-count.result c.count_where-count.ensures c.if-count-eq0.true))

pub invariant_of-self : goal.invariant_of-self
invariant_of-self g c =
    let p = g.T.SeatTest.passes c.args.test.now in
    let users = c.self.inside.users.seats in
    let rows = c.self.inside.rows in
    subst (FitRows c.lose.new.self.mounts users) (sym c.change_all.ensures) (record {
      counted = counted_ended p c.args.rule c.in-Some.number c.self.inside.mounts.mounts c.lose.new.self.mounts rows c.count_where-count.result
          c.self.invariant.counted c.count_where-count.ensures c.lose.ensures.sitting c.lose.ensures.naming;
      kept = kept_ended_where users rows c.self.invariant.kept p c.in-Some.number c.args.rule;
    })

pub returns-clause-seats : goal.returns-clause-seats
returns-clause-seats g c =
    let p = g.T.SeatTest.passes c.args.test.now in
    let mounts = c.self.inside.mounts in
    let name = name_in mounts.mounts in
    let mount = c.args.mount.now in
    same_table c.lose.new.self.names c.args.self.now.prepared _ _ (c.lose.ensures.prepared ∙ ap (λ (b : SeatTable). b.prepared) c.self.view_is)
    (shown_same name (name_in c.lose.new.self.mounts) c.change_all.new.self c.lose.ensures.names
    ∙ ap (map (named name)) c.change_all.ensures
    ∙ all_end_there name mount c.in-Some.number (λ k. c.number.ensures.only k ∙ ap (λ n. is_number n k) c.in-Some.is) p c.args.rule c.self.inside.rows
    ∙ ap (λ (b : SeatTable). with_ended b.seats (passes_at mount p) c.args.rule) c.self.view_is)

pub returns-in_default-clause-count : goal.returns-in_default-clause-count
returns-in_default-clause-count g c =
    let p = g.T.SeatTest.passes c.args.test.now in
    let name = name_in c.self.inside.mounts.mounts in
    let mount = c.args.mount.now in
    subst (λ (b : SeatTable). 0 ≡ how_many (passes_at mount p) b.seats) c.self.view_is
    (none_to_end name mount (λ k. c.number.ensures.only k ∙ ap (λ n. is_number n k) c.in_default.is) p c.args.rule c.self.inside.rows)

pub returns-then-count-eq0-clause-count : goal.returns-then-count-eq0-clause-count
returns-then-count-eq0-clause-count g c =
    let p = g.T.SeatTest.passes c.args.test.now in
    let name = name_in c.self.inside.mounts.mounts in
    let mount = c.args.mount.now in
    subst (λ (b : SeatTable). 0 ≡ how_many (passes_at mount p) b.seats) c.self.view_is
    (sym c.if-count-eq0.true ∙ c.count_where-count.ensures
    ∙ sym (how_many_there name mount c.in-Some.number (λ k. c.number.ensures.only k ∙ ap (λ n. is_number n k) c.in-Some.is) p c.args.rule c.self.inside.rows))

pub returns-clause-count : goal.returns-clause-count
returns-clause-count g c =
    let p = g.T.SeatTest.passes c.args.test.now in
    let name = name_in c.self.inside.mounts.mounts in
    let mount = c.args.mount.now in
    subst (λ (b : SeatTable). c.count_where-count.result ≡ how_many (passes_at mount p) b.seats) c.self.view_is
    (c.count_where-count.ensures
    ∙ sym (how_many_there name mount c.in-Some.number (λ k. c.number.ensures.only k ∙ ap (λ n. is_number n k) c.in-Some.is) p c.args.rule c.self.inside.rows))
