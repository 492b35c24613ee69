use denote.Param.Send.{sendable}
use Rattle.radio_book.proofs.Kept.TheSendSync as kept
use Rattle.radio_locks.proofs.Threads.{hall_sync}
use Rattle.hall_tests.proofs.freezing.is_answered.Goals as goal

-- several threads may call the hall
pub is_answered_meanwhile-requires-sync-S : goal.is_answered_meanwhile-requires-sync-S
is_answered_meanwhile-requires-sync-S g c κs within = search (sendable, hall_sync, kept.the_send, c.type_bounds) depth 8
