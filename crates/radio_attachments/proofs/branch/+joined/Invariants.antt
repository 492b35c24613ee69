use Rattle.std.proofs.Common.{◌+◌, length}
use Rattle.radio_attachments.proofs.branch.+joined.Given as goal

abbrev pub decreases-joined : goal.decreases-joined
decreases-joined l = length l.less + length l.more
