use Rattle.std.proofs.Common.{◌≡◌, ℕ, Option, Some, None, refl, ap, sym, subst, ◌∙◌}
use Rattle.radio_seats.proofs.Words.{find, map, option_map, ListenerRow, RowState, Seated, Ended, SeatTable, name_in, is_row, number_of, last_number, with_state, heard_to_place, named, sits_by, names_by, number_in}
use Rattle.radio_seats.proofs.Words.{last_in, FitRows, with_place}
use Rattle.radio_seats.proofs.KeptRows.{kept_heard}
use Rattle.radio_seats.proofs.RowCounts.{held_number, held_last, stays_there}
use Rattle.radio_seats.proofs.RowLemmas.{same_table, seats_heard}
use Rattle.radio_seats.proofs.seats.Seats.advance.Goals as goal

abbrev hearing : ℕ → ListenerRow → ListenerRow
hearing place row = with_state (heard_to_place place row.state) row

-- it sits where it sat, and names the mount that it named
sits_still : (place : ℕ) (row : Option ListenerRow) → (number_in (option_map (hearing place) row) ≡ number_in row) × (last_in (option_map (hearing place) row) ≡ last_in row)
sits_still place None = (refl, refl)
sits_still place (Some row) = by_state row.state where
  by_state : (state : RowState)
      → (number_of (heard_to_place place state) ≡ number_of state) × (Some (last_number (heard_to_place place state)) ≡ Some (last_number state))
  by_state (Seated seat) = (refl, refl)
  by_state (Ended rule mount) = (refl, refl)

pub invariant_of-self : goal.invariant_of-self
invariant_of-self c =
    let mounts = c.self.inside.mounts.mounts in
    let rows = c.self.inside.rows in
    let still = sits_still c.args.place (find (is_row c.args.id) rows) in
    let users = c.self.inside.users.seats in
    subst (FitRows mounts users) (sym c.change.ensures) (record {
      counted = record {
        sitting = λ k. c.self.invariant.counted.sitting k ∙ sym (stays_there sits_by number_in held_number rows c.args.id (hearing c.args.place) still.0 k);
        naming = λ k. c.self.invariant.counted.naming k ∙ sym (stays_there names_by last_in held_last rows c.args.id (hearing c.args.place) still.1 k);
      };
      kept = kept_heard users rows c.self.invariant.kept c.args.id c.args.place;
    })

pub returns : goal.returns
returns c =
    let mounts = c.self.inside.mounts in
    let name = name_in mounts.mounts in
    same_table mounts.names c.args.self.now.prepared _ _ (ap (λ (b : SeatTable). b.prepared) c.self.view_is)
    (ap (map (named name)) c.change.ensures ∙ seats_heard name name c.self.inside.rows (λ k. refl) c.args.id c.args.place
    ∙ ap (λ (b : SeatTable). with_place b.seats c.args.id c.args.place) c.self.view_is)
