use Rattle.std.proofs.Common.{◌<◌, ◌-◌, refl, ap, sym, subst, ◌∙◌, arith}
use Rattle.radio_seats.proofs.Words.{length, map, nat_cmp, placed, ListenerRow, SeatTable, is_number, name_in, sitting_in, naming_in, one_at, seated_row, named, number_in, last_in, sits_by, names_by, AreCounted}
use Rattle.radio_seats.proofs.Words.{with_seat}
use Rattle.radio_seats.proofs.RowCounts.{held_number, held_last, his_counts, one_comes, one_more, room_for_one}
use Rattle.radio_seats.proofs.RowLemmas.{is_called, same_table, seats_with}
use Rattle.radio_seats.proofs.seats.Seats.add.Goals as goal

pub gain-requires-clause-room_to_sit : goal.gain-requires-clause-room_to_sit
gain-requires-clause-room_to_sit c =
    let rows = c.self.inside.rows in
    let from = c.number_of-from.result in
    let his = c.number_of-from.ensures.number in
    let few : length c.insert_row.new.rows < 18446744073709551616 = omega (arith, c.len.ensures.count, c.len.type_inv) in
    room_for_one sits_by (sitting_in c.self.inside.mounts.mounts) rows _ from c.self.invariant.counted.sitting (sitting_in c.give_up.new.self.mounts) c.in-Some.number
    (his_counts sits_by number_in held_number rows c.args.id from his)
    (one_comes sits_by number_in held_number rows c.number_of-from.ensures.rising from (seated_row c.args.id c.in-Some.number c.args.seat) c.in-Some.number his refl)
    (λ k. c.give_up.ensures.sitting k ∙ c.leave.ensures.sitting k)
    18446744073709551616 (subst (λ xs. length xs < 18446744073709551616) c.in_ok-insert_row.ensures.ok few)

pub gain-requires-clause-room_to_name : goal.gain-requires-clause-room_to_name
gain-requires-clause-room_to_name c =
    let rows = c.self.inside.rows in
    let last = c.last_of-last.result in
    let few : length c.insert_row.new.rows < 18446744073709551616 = omega (arith, c.len.ensures.count, c.len.type_inv) in
    room_for_one names_by (naming_in c.self.inside.mounts.mounts) rows _ last c.self.invariant.counted.naming (naming_in c.give_up.new.self.mounts) c.in-Some.number
    (his_counts names_by last_in held_last rows c.args.id last c.last_of-last.ensures)
    (one_comes names_by last_in held_last rows c.number_of-from.ensures.rising last (seated_row c.args.id c.in-Some.number c.args.seat) c.in-Some.number
    c.last_of-last.ensures refl)
    (λ k. c.give_up.ensures.naming k ∙ ap (λ n. n - one_at last k) (c.leave.ensures.naming k))
    18446744073709551616 (subst (λ xs. length xs < 18446744073709551616) c.in_ok-insert_row.ensures.ok few)

-- where the row is refused, the rows are the same
pub invariant_of-self : goal.invariant_of-self
invariant_of-self c =
    record {
      counted = subst (AreCounted c.self.inside.mounts.mounts) (sym c.in_err-insert_row.ensures.err) c.self.invariant.counted;
      kept = c.in_err-insert_row.ensures.kept;
    }

pub invariant_of-self-2 : goal.invariant_of-self-2
invariant_of-self-2 c =
    let mounts = c.self.inside.mounts.mounts in
    let rows = c.self.inside.rows in
    let rising = c.number_of-from.ensures.rising in
    let from = c.number_of-from.result in
    let his = c.number_of-from.ensures.number in
    let last = c.last_of-last.result in
    let left = c.give_up.new.self.mounts in
    let later = c.gain.new.self.mounts in
    let number = c.in-Some.number in
    let row = seated_row c.args.id number c.args.seat in
    record {
      counted = subst (AreCounted later) (sym c.in_ok-insert_row.ensures.ok) (record {
        sitting = one_more sits_by (sitting_in mounts) rows (placed (λ (a b : ListenerRow). nat_cmp a.id b.id) row rows) from c.self.invariant.counted.sitting (sitting_in left) number
            (his_counts sits_by number_in held_number rows c.args.id from his)
            (one_comes sits_by number_in held_number rows rising from row number his refl)
            (λ k. c.give_up.ensures.sitting k ∙ c.leave.ensures.sitting k) (sitting_in later) c.gain.ensures.sitting;
        naming = one_more names_by (naming_in mounts) rows (placed (λ (a b : ListenerRow). nat_cmp a.id b.id) row rows) last c.self.invariant.counted.naming (naming_in left) number
            (his_counts names_by last_in held_last rows c.args.id last c.last_of-last.ensures)
            (one_comes names_by last_in held_last rows rising last row number c.last_of-last.ensures refl)
            (λ k. c.give_up.ensures.naming k ∙ ap (λ n. n - one_at last k) (c.leave.ensures.naming k)) (naming_in later) c.gain.ensures.naming;
      });
      kept = c.in_ok-insert_row.ensures.kept;
    }

pub returns-clause-ok : goal.returns-clause-ok
returns-clause-ok c =
    let mounts = c.self.inside.mounts in
    let name = name_in mounts.mounts in
    let mount = c.args.seat.mount in
    let called = is_called name mount c.in-Some.number (λ k. c.number.ensures.only k ∙ ap (λ n. is_number n k) c.in-Some.is) in
    let later = c.gain.new.self in
    same_table later.names c.args.self.now.prepared _ _
    (c.gain.ensures.prepared ∙ c.give_up.ensures.prepared ∙ c.leave.ensures.prepared ∙ ap (λ (b : SeatTable). b.prepared) c.self.view_is)
    (ap (map (named (name_in later.mounts))) c.in_ok-insert_row.ensures.ok
    ∙ seats_with name (name_in later.mounts) c.self.inside.rows (λ k. c.gain.ensures.names k ∙ c.give_up.ensures.names k ∙ c.leave.ensures.names k) c.args.id
    c.in-Some.number c.args.seat called
    ∙ ap (λ (b : SeatTable). with_seat b.seats c.args.id c.args.seat) c.self.view_is)
