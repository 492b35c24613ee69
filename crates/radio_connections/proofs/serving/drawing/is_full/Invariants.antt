use Rattle.std.proofs.Common.{◌≡◌, ◌-◌, drop, length}
use Rattle.std.specs.List.{concat}
use Rattle.radio_connections.specs.Rooms.{draw_room}
use Rattle.radio_connections.proofs.serving.drawing.is_full.Given as goal

-- what the slices from the index on leave of the room is what all leave of it
abbrev pub invariant-slices : goal.invariant-slices
invariant-slices l = l.left - length (concat (drop l.slice-index l.slice-items)) ≡ draw_room - length l.pieces
