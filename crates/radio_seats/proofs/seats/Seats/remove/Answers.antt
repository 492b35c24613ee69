use Rattle.std.proofs.Common.{ap, sym, subst, ◌∙◌, ◌-◌}
use Rattle.radio_seats.proofs.Words.{filter, map, not, option_copied, SeatTable, name_in, sitting_in, naming_in, one_at, is_row, sits_by, names_by, named, number_in, last_in, FitRows, user_in, without_listener}
use Rattle.radio_seats.proofs.UserLemmas.{kept_left}
use Rattle.radio_seats.proofs.RowCounts.{held_number, held_last, one_goes, one_less}
use Rattle.radio_seats.proofs.RowLemmas.{same_table, seats_without}
use Rattle.radio_seats.proofs.seats.Seats.remove.Goals as goal

pub invariant_of-self : goal.invariant_of-self
invariant_of-self c =
    let mounts = c.self.inside.mounts.mounts in
    let rows = c.self.inside.rows in
    let id = c.args.id in
    let later = c.give_up.new.self.mounts in
    let rising = c.number_of-from.ensures.rising in
    let from = c.number_of-from.result in
    let last = c.last_of-last.result in
    let users = c.self.inside.users.seats in
    let left = c.remove.new.self.seats in
    subst (FitRows later left) (sym c.remove-gone.ensures.removed) (record {
      counted = record {
        sitting = one_less sits_by (sitting_in mounts) rows (filter (λ row. not (is_row id row)) rows) from c.self.invariant.counted.sitting (sitting_in later)
            (one_goes sits_by number_in held_number rows rising from id c.number_of-from.ensures.number)
            (λ k. c.give_up.ensures.sitting k ∙ c.leave.ensures.sitting k);
        naming = one_less names_by (naming_in mounts) rows (filter (λ row. not (is_row id row)) rows) last c.self.invariant.counted.naming (naming_in later)
            (one_goes names_by last_in held_last rows rising last id c.last_of-last.ensures)
            (λ k. c.give_up.ensures.naming k ∙ ap (λ n. n - one_at last k) (c.leave.ensures.naming k));
      };
      kept = kept_left users rows c.self.invariant.kept id (option_copied c.user_of.result)
          (c.user_of.ensures ∙ ap user_in (c.as_ref.ensures.value ∙ c.remove-gone.ensures.value)) left c.remove.ensures;
    })

pub returns : goal.returns
returns c =
    let mounts = c.self.inside.mounts in
    let later = c.give_up.new.self in
    same_table later.names c.args.self.now.prepared _ _
    (c.give_up.ensures.prepared ∙ c.leave.ensures.prepared ∙ ap (λ (b : SeatTable). b.prepared) c.self.view_is)
    (ap (map (named (name_in later.mounts))) c.remove-gone.ensures.removed
    ∙ seats_without (name_in mounts.mounts) (name_in later.mounts) c.self.inside.rows (λ k. c.give_up.ensures.names k ∙ c.leave.ensures.names k) c.args.id
    ∙ ap (λ (b : SeatTable). without_listener b.seats c.args.id) c.self.view_is)
