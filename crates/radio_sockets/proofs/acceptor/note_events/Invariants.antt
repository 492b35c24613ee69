use Rattle.std.proofs.Common.{◌≡◌}
use Rattle.radio_sockets.proofs.acceptor.note_events.Given as goal

abbrev pub invariant-loop-event : goal.invariant-loop-event
invariant-loop-event l = l.pending.proxies ≡ l.fn.pending.proxies
