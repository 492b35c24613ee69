use Rattle.std.proofs.Common.{◌<◌, ◌==◌, Some, ap, sym, ◌∙◌, arith}
use Rattle.radio_seats.proofs.Words.{option_copied, option_map, ListenerRow, SeatTable, name_of, name_in, naming_of, is_row, last_number, names_by, last_mount_of, passing, found_counts, same_number}
use Rattle.radio_seats.proofs.RowLemmas.{last_found}
use Rattle.radio_seats.proofs.seats.Seats.last_mount.Goals as goal

pub returns-in_default : goal.returns-in_default
returns-in_default c =
    let name = name_in c.self.inside.mounts.mounts in
    let rows = c.self.inside.rows in
    sym (ap (λ (b : SeatTable). last_mount_of b.seats c.args.id) (sym c.self.view_is) ∙ last_found name rows c.args.id
    ∙ ap (option_map (λ (row : ListenerRow). name (last_number row.state))) (sym c.get.ensures ∙ ap option_copied c.in_default.is))

-- a mount that a row names is there
pub unreachable-requires : goal.unreachable-requires
unreachable-requires c =
    let rows = c.self.inside.rows in
    let number = c.last_mount.result in
    let none = ap naming_of (sym c.get-2.ensures ∙ ap option_copied c.in-None.is) in
    let names = ap (λ n. n == number) (sym c.last_mount.ensures) ∙ same_number number in
    let some : 0 < passing (names_by number) rows = found_counts (names_by number) (is_row c.args.id) rows c.in-Some.row.now
    (sym c.get.ensures ∙ ap option_copied c.in-Some.is) names in
    absurd (omega (arith, none, some, c.self.invariant.counted.naming number))

pub returns : goal.returns
returns c =
    let name = name_in c.self.inside.mounts.mounts in
    let rows = c.self.inside.rows in
    let called = ap name_of (sym c.get-2.ensures ∙ ap option_copied c.in-Some-get.is) in
    sym (ap (λ (b : SeatTable). last_mount_of b.seats c.args.id) (sym c.self.view_is) ∙ last_found name rows c.args.id
    ∙ ap (option_map (λ (row : ListenerRow). name (last_number row.state))) (sym c.get.ensures ∙ ap option_copied c.in-Some.is)
    ∙ ap (λ n. Some (name n)) (sym c.last_mount.ensures) ∙ ap Some called)
