use Rattle.std.proofs.Common.{◌≡◌, vec_len}
use Rattle.radio_sockets.proofs.slots.open_desks.Given as goal

abbrev pub invariant-workers : goal.invariant-workers
invariant-workers g l = vec_len l.sockets ≡ vec_len l.desks
