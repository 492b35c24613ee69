use Rattle.std.proofs.Common.{◌≡◌, ◌++◌, List, map}
use Rattle.radio_pullers.proofs.Words.{arc_value, RelaySetting}
use Rattle.radio_pullers.proofs.roster.Roster.add_settings.Given as goal

abbrev pub invariant-relays : goal.invariant-relays
invariant-relays l = (rest : List RelaySetting) × (map arc_value l.others.items ≡ map arc_value l.initial.others.items ++ rest)
