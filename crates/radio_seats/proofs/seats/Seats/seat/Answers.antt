use Rattle.std.proofs.Common.{◌<◌, Some, ap, sym, ◌∙◌, arith}
use Rattle.radio_seats.proofs.Words.{option_copied, option_map, SeatTable, seat_of_guest, name_of, name_in, sitting_of, is_row, named, named_state, sits_by, state_at, listener_of, seat_held, seat_in, passing}
use Rattle.radio_seats.proofs.Words.{found_counts, same_number}
use Rattle.radio_seats.proofs.RowLemmas.{listener_shown}
use Rattle.radio_seats.proofs.seats.Seats.seat.Goals as goal

pub returns-in_default : goal.returns-in_default
returns-in_default c =
    let name = name_in c.self.inside.mounts.mounts in
    let rows = c.self.inside.rows in
    let found = ap (λ (b : SeatTable). listener_of b.seats c.args.id) (sym c.self.view_is) ∙ listener_shown name rows c.args.id
    ∙ ap (option_map (named name)) (sym c.get.ensures ∙ ap option_copied c.in_default.is) in
    sym (ap seat_in found)

pub returns-in-Ended : goal.returns-in-Ended
returns-in-Ended c =
    let name = name_in c.self.inside.mounts.mounts in
    let rows = c.self.inside.rows in
    let found = ap (λ (b : SeatTable). listener_of b.seats c.args.id) (sym c.self.view_is) ∙ listener_shown name rows c.args.id
    ∙ ap (option_map (named name)) (sym c.get.ensures ∙ ap option_copied c.in-Some.is) in
    sym (ap seat_in found ∙ ap (λ state. seat_held (named_state name state)) c.in-Ended.is)

pub returns-in-Some-get : goal.returns-in-Some-get
returns-in-Some-get c =
    let name = name_in c.self.inside.mounts.mounts in
    let rows = c.self.inside.rows in
    let found = ap (λ (b : SeatTable). listener_of b.seats c.args.id) (sym c.self.view_is) ∙ listener_shown name rows c.args.id
    ∙ ap (option_map (named name)) (sym c.get.ensures ∙ ap option_copied c.in-Some.is) in
    let seat = c.in-Seated.seat in
    let called = ap name_of (sym c.get-in-Seated.ensures ∙ ap option_copied c.in-Some-get.is) in
    sym (ap seat_in found ∙ ap (λ state. seat_held (named_state name state)) c.in-Seated.is
    ∙ ap (λ n. Some (seat_of_guest seat.place n seat.session seat.guest)) called)

-- whoever sits is counted at its mount, so it is there
pub unreachable-requires : goal.unreachable-requires
unreachable-requires c =
    let rows = c.self.inside.rows in
    let number = c.in-Seated.seat.mount in
    let none = ap sitting_of (sym c.get-in-Seated.ensures ∙ ap option_copied c.in-None.is) in
    let sits = ap (state_at number) c.in-Seated.is ∙ same_number number in
    let some : 0 < passing (sits_by number) rows = found_counts (sits_by number) (is_row c.args.id) rows c.in-Some.row.now
    (sym c.get.ensures ∙ ap option_copied c.in-Some.is) sits in
    absurd (omega (arith, none, some, c.self.invariant.counted.sitting number))
