use Rattle.std.proofs.Common.{length}
use Rattle.radio_merge.proofs.positions.+past_cuts.Given as goal

abbrev pub decreases-past_cuts : goal.decreases-past_cuts
decreases-past_cuts l = length l.lines.now
