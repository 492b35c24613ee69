use Rattle.std.proofs.Common.{◌≡◌, map, take}
use Rattle.radio_pullers.proofs.Words.{arc_value, pulled_mounts}
use Rattle.radio_pullers.proofs.roster.Roster.live.Given as goal

abbrev pub invariant-relays : goal.invariant-relays
invariant-relays l = l.mounts.items ≡ pulled_mounts (map arc_value (take l.relay-index l.self.running.items))
