-- Which worker takes a newcomer.
use Rattle.std.specs.Prelude.{Option, Some, None, nat_le, if◌then◌else◌}
use Rattle.radio_board.specs.declared.choice.Chosen.{Chosen}

-- the one that was chosen so far, unless the other has fewer connections
-- rule: Newcomers
abbrev pub better : Option Chosen → Chosen → Chosen
better None other = other
better (Some best) other = if nat_le best.load other.load then best else other
