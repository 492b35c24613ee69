use Rattle.std.proofs.Common.{refl}
use Rattle.radiod.proofs.log.reason_not_bound.Goals as goal

pub returns-in-NoAddress : goal.returns-in-NoAddress
returns-in-NoAddress c = rw c.in-NoAddress.is (c.words_of-in-NoAddress.ensures _ refl)
