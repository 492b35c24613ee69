use Rattle.std.specs.Prelude.{vec_len}
use Rattle.radio_locks.proofs.hall.Hall.put_all.Given as goal

abbrev pub decreases-lent : goal.decreases-lent
decreases-lent g l = vec_len l.lent
