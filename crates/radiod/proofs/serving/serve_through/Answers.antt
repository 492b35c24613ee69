use denote.Param.Send.{sendable}
use Rattle.radio_book.proofs.Unkept.TheSendSync as unkept
use Rattle.radio_locks.proofs.Threads.{hall_sync}
use Rattle.radiod.proofs.serving.serve_through.Goals as goal

-- several threads may call the hall
pub serve-fault-requires-sync-S : goal.serve-fault-requires-sync-S
serve-fault-requires-sync-S g c κs within = search (sendable, hall_sync, unkept.the_send, c.type_bounds) depth 8
