use Rattle.std.proofs.Common.{◌≡◌, length}
use Rattle.radio_parts_changes.proofs.Words.{fold, session_silenced, silent_in}
use Rattle.radio_parts_changes.proofs.state.ServerState.end_silent.Given as goal

-- what is left to end makes what was to end from the start
abbrev pub invariant-sessions : goal.invariant-sessions
invariant-sessions l = fold session_silenced l.self (silent_in l.self) ≡ fold session_silenced l.initial.self (silent_in l.initial.self)

abbrev pub decreases-sessions : goal.decreases-sessions
decreases-sessions l = length (silent_in l.self)
