use denote.Param.Send.{sendable}
use Rattle.radio_book.proofs.Kept.TheSendSync as kept
use Rattle.radio_locks.proofs.Threads.{hall_sync}
use Rattle.hall_tests.proofs.moving.are_together.Goals as goal

-- several threads may call the hall
pub run_three-requires-sync-S : goal.run_three-requires-sync-S
run_three-requires-sync-S g c κs within = search (sendable, hall_sync, kept.the_send, c.type_bounds) depth 8

pub scatter_together-requires-sync-S : goal.scatter_together-requires-sync-S
scatter_together-requires-sync-S g c κs within = search (sendable, hall_sync, kept.the_send, c.type_bounds) depth 8

pub scatter_together-requires-in-ScatteredWithFallbacks-sync-S : goal.scatter_together-requires-in-ScatteredWithFallbacks-sync-S
scatter_together-requires-in-ScatteredWithFallbacks-sync-S g c κs within = search (sendable, hall_sync, kept.the_send, c.type_bounds) depth 8
