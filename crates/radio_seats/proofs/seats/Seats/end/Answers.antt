use Rattle.std.proofs.Common.{◌≡◌, Option, None, Some, refl, ap, sym, subst, ◌∙◌}
use Rattle.radio_seats.proofs.Words.{find, map, option_map, Rule, update_first, ListenerRow, RowState, Seated, Ended, SeatTable, name_in, sitting_in, is_row, ended, number_of, last_number, with_state, sits_by, names_by}
use Rattle.radio_seats.proofs.Words.{named, number_in, last_in, FitRows, with_end}
use Rattle.radio_seats.proofs.KeptRows.{kept_ended}
use Rattle.radio_seats.proofs.RowCounts.{held_number, held_last, goes_from, stays_there, one_less}
use Rattle.radio_seats.proofs.RowLemmas.{same_table, seats_ended}
use Rattle.radio_seats.proofs.seats.Seats.end.Goals as goal

abbrev ending : Rule → ListenerRow → ListenerRow
ending rule row = with_state (ended rule row.state) row

-- who has lost its seat sits nowhere, and names the mount where it sat
nowhere : (rule : Rule) (row : Option ListenerRow) → (number_in (option_map (ending rule) row) ≡ None) × (last_in (option_map (ending rule) row) ≡ last_in row)
nowhere rule None = (refl, refl)
nowhere rule (Some row) = by_state row.state where
  by_state : (state : RowState) → (number_of (ended rule state) ≡ None) × (Some (last_number (ended rule state)) ≡ Some (last_number state))
  by_state (Seated seat) = (refl, refl)
  by_state (Ended other mount) = (refl, refl)

pub invariant_of-self : goal.invariant_of-self
invariant_of-self c =
    let mounts = c.self.inside.mounts.mounts in
    let rows = c.self.inside.rows in
    let id = c.args.id in
    let none = nowhere c.args.rule (find (is_row id) rows) in
    let from = c.number_of-from.result in
    let users = c.self.inside.users.seats in
    subst (FitRows c.leave.new.self.mounts users) (sym c.change.ensures) (record {
      counted = record {
        sitting = one_less sits_by (sitting_in mounts) rows (update_first (is_row id) (ending c.args.rule) rows) from c.self.invariant.counted.sitting (sitting_in c.leave.new.self.mounts)
            (goes_from sits_by number_in held_number rows id (ending c.args.rule) from c.number_of-from.ensures.number none.0) c.leave.ensures.sitting;
        naming = λ k.
            c.leave.ensures.naming k ∙ c.self.invariant.counted.naming k
            ∙ sym (stays_there names_by last_in held_last rows id (ending c.args.rule) none.1 k);
      };
      kept = kept_ended users rows c.self.invariant.kept id c.args.rule;
    })

pub returns : goal.returns
returns c =
    let mounts = c.self.inside.mounts in
    same_table c.leave.new.self.names c.args.self.now.prepared _ _ (c.leave.ensures.prepared ∙ ap (λ (b : SeatTable). b.prepared) c.self.view_is)
    (ap (map (named (name_in c.leave.new.self.mounts))) c.change.ensures
    ∙ seats_ended (name_in mounts.mounts) (name_in c.leave.new.self.mounts) c.self.inside.rows c.leave.ensures.names c.args.id c.args.rule
    ∙ ap (λ (b : SeatTable). with_end b.seats c.args.id c.args.rule) c.self.view_is)
