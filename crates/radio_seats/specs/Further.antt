-- A row whose listener has heard more.
use Rattle.std.specs.Prelude.{ℕ}
use Rattle.radio_seats_rows.specs.declared.row.RowState.{RowState}
use Rattle.radio_seats_rows.specs.declared.row.RowState.TheVariants.{Seated, Ended}

-- it has heard its mount's stream up to this place, if it has a seat
abbrev pub heard_to_place : ℕ → RowState → RowState
heard_to_place place (Seated seat) = Seated (record seat { place = place })
heard_to_place place (Ended rule mount) = Ended rule mount
