use denote.Param.Send.{sendable}
use Rattle.radio_book.proofs.Kept.TheSendSync as kept
use Rattle.radio_locks.proofs.Threads.{hall_sync}
use Rattle.hall_tests.proofs.workers.work.Goals as goal

-- several threads may call the hall
pub run_workers-requires-sync-S : goal.run_workers-requires-sync-S
run_workers-requires-sync-S g c κs within = search (sendable, hall_sync, kept.the_send, c.type_bounds) depth 8
