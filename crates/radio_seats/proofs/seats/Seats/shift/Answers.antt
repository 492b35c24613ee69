use Rattle.std.proofs.Common.{◌<◌, ◌-◌, ap, refl, sym, subst, ◌∙◌, arith}
use Rattle.radio_seats.proofs.Words.{find, length, map, update_first, SeatTable, is_number, name_in, sitting_in, naming_in, one_at, is_row, named, number_in, last_in, sits_by, names_by, FitRows, with_move}
use Rattle.radio_seats.proofs.KeptRows.{kept_shifted}
use Rattle.radio_seats.proofs.RowCounts.{held_number, held_last, his_counts, stays_there, move, none_moves, his_name, seat_goes, name_goes, one_more, room_for_one}
use Rattle.radio_seats.proofs.RowLemmas.{is_called, same_table, seats_moved}
use Rattle.radio_seats.proofs.seats.Seats.shift.Goals as goal

pub invariant_of-self : goal.invariant_of-self
invariant_of-self c =
    let mounts = c.self.inside.mounts.mounts in
    let rows = c.self.inside.rows in
    let id = c.args.id in
    let moves = move c.in-Some.number c.args.session c.args.place in
    let still = none_moves c.in-Some.number c.args.session c.args.place (find (is_row id) rows) (sym c.number_of-from.ensures.number ∙ c.in_default-from.is) in
    let users = c.self.inside.users.seats in
    subst (FitRows mounts users) (sym c.change.ensures) (record {
      counted = record {
        sitting = λ k. c.self.invariant.counted.sitting k ∙ sym (stays_there sits_by number_in held_number rows id moves still.0 k);
        naming = λ k. c.self.invariant.counted.naming k ∙ sym (stays_there names_by last_in held_last rows id moves still.1 k);
      };
      kept = kept_shifted users rows c.self.invariant.kept id c.in-Some.number c.args.session c.args.place;
    })

pub returns-in_default-from : goal.returns-in_default-from
returns-in_default-from c =
    let mounts = c.self.inside.mounts in
    let name = name_in mounts.mounts in
    let mount = c.args.mount.now in
    let called = is_called name mount c.in-Some.number (λ k. c.number.ensures.only k ∙ ap (λ n. is_number n k) c.in-Some.is) in
    same_table mounts.names c.args.self.now.prepared _ _ (ap (λ (b : SeatTable). b.prepared) c.self.view_is)
    (ap (map (named name)) c.change.ensures
    ∙ seats_moved name name c.self.inside.rows (λ k. refl) mount c.in-Some.number c.args.session c.args.place called c.args.id
    ∙ ap (λ (b : SeatTable). with_move b.seats c.args.id mount c.args.session c.args.place) c.self.view_is)

pub gain-requires-clause-room_to_sit : goal.gain-requires-clause-room_to_sit
gain-requires-clause-room_to_sit c =
    let rows = c.self.inside.rows in
    let number = c.in-Some.number in
    let from = c.number_of-from.result in
    let his = c.number_of-from.ensures.number in
    let few : length c.change.new.self < 18446744073709551616 = omega (arith, c.len.ensures.count, c.len.type_inv) in
    room_for_one sits_by (sitting_in c.self.inside.mounts.mounts) rows _ from c.self.invariant.counted.sitting (sitting_in c.give_up.new.self.mounts) number
    (his_counts sits_by number_in held_number rows c.args.id from his)
    (seat_goes number c.args.session c.args.place rows c.args.id from c.in-Some-from.field-0 his c.in-Some-from.is)
    (λ k. c.give_up.ensures.sitting k ∙ c.leave.ensures.sitting k)
    18446744073709551616 (subst (λ xs. length xs < 18446744073709551616) c.change.ensures few)

pub gain-requires-clause-room_to_name : goal.gain-requires-clause-room_to_name
gain-requires-clause-room_to_name c =
    let rows = c.self.inside.rows in
    let number = c.in-Some.number in
    let from = c.number_of-from.result in
    let his = c.number_of-from.ensures.number in
    let few : length c.change.new.self < 18446744073709551616 = omega (arith, c.len.ensures.count, c.len.type_inv) in
    room_for_one names_by (naming_in c.self.inside.mounts.mounts) rows _ from c.self.invariant.counted.naming (naming_in c.give_up.new.self.mounts) number
    (his_name number c.args.session c.args.place rows c.args.id from c.in-Some-from.field-0 his c.in-Some-from.is)
    (name_goes number c.args.session c.args.place rows c.args.id from c.in-Some-from.field-0 his c.in-Some-from.is)
    (λ k. c.give_up.ensures.naming k ∙ ap (λ n. n - one_at from k) (c.leave.ensures.naming k))
    18446744073709551616 (subst (λ xs. length xs < 18446744073709551616) c.change.ensures few)

pub invariant_of-self-2 : goal.invariant_of-self-2
invariant_of-self-2 c =
    let mounts = c.self.inside.mounts.mounts in
    let rows = c.self.inside.rows in
    let id = c.args.id in
    let number = c.in-Some.number in
    let from = c.number_of-from.result in
    let his = c.number_of-from.ensures.number in
    let old = c.in-Some-from.field-0 in
    let left = c.give_up.new.self.mounts in
    let later = c.gain.new.self.mounts in
    let moved = update_first (is_row id) (move number c.args.session c.args.place) rows in
    let users = c.self.inside.users.seats in
    subst (FitRows later users) (sym c.change.ensures) (record {
      counted = record {
        sitting = one_more sits_by (sitting_in mounts) rows moved from c.self.invariant.counted.sitting (sitting_in left) number
            (his_counts sits_by number_in held_number rows id from his) (seat_goes number c.args.session c.args.place rows id from old his c.in-Some-from.is)
            (λ k. c.give_up.ensures.sitting k ∙ c.leave.ensures.sitting k) (sitting_in later) c.gain.ensures.sitting;
        naming = one_more names_by (naming_in mounts) rows moved from c.self.invariant.counted.naming (naming_in left) number
            (his_name number c.args.session c.args.place rows id from old his c.in-Some-from.is)
            (name_goes number c.args.session c.args.place rows id from old his c.in-Some-from.is)
            (λ k. c.give_up.ensures.naming k ∙ ap (λ n. n - one_at from k) (c.leave.ensures.naming k)) (naming_in later) c.gain.ensures.naming;
      };
      kept = kept_shifted users rows c.self.invariant.kept id number c.args.session c.args.place;
    })

pub returns : goal.returns
returns c =
    let mounts = c.self.inside.mounts in
    let name = name_in mounts.mounts in
    let mount = c.args.mount.now in
    let called = is_called name mount c.in-Some.number (λ k. c.number.ensures.only k ∙ ap (λ n. is_number n k) c.in-Some.is) in
    let later = c.gain.new.self in
    same_table later.names c.args.self.now.prepared _ _
    (c.gain.ensures.prepared ∙ c.give_up.ensures.prepared ∙ c.leave.ensures.prepared ∙ ap (λ (b : SeatTable). b.prepared) c.self.view_is)
    (ap (map (named (name_in later.mounts))) c.change.ensures
    ∙ seats_moved name (name_in later.mounts) c.self.inside.rows (λ k. c.gain.ensures.names k ∙ c.give_up.ensures.names k ∙ c.leave.ensures.names k) mount
    c.in-Some.number c.args.session c.args.place called c.args.id
    ∙ ap (λ (b : SeatTable). with_move b.seats c.args.id mount c.args.session c.args.place) c.self.view_is)
