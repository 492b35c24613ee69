use Rattle.std.proofs.Common.{◌≡◌, ◌++◌, map, filter_map}
use Rattle.radio_seats.proofs.Words.{lent_guest, row_guest}
use Rattle.radio_seats.proofs.listed.guests_in.Given as goal

abbrev pub invariant-loop-row : goal.invariant-loop-row
invariant-loop-row l = map lent_guest l.found.items ++ filter_map (row_guest l.number) l.row-iterator ≡ filter_map (row_guest l.number) l.rows
