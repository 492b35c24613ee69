use Rattle.std.proofs.Common.{◌≡◌}
use Rattle.radio_sockets.proofs.socket_turns.SocketTurns.wait.Given as goal

-- what was reported last is of the last moment of the clock
abbrev pub invariant-loop : goal.invariant-loop
invariant-loop g l = l.self.clock_us ≡ l.polled.us
