use Rattle.std.proofs.Common.{length}
use Rattle.radio_merge.proofs.same.data.+next_byte.Given as goal

abbrev pub decreases-next_byte : goal.decreases-next_byte
decreases-next_byte l = length l.slices.now
