-- The states that a core represents, and what its steps are.
use Rattle.radio_events.specs.Servers.{Steps}
use Rattle.radio_parts_station.specs.World.{World}
use Rattle.radio_core.specs.StandsFor.{StandsFor}
use Rattle.radio_parts.specs.Step.{Step}

-- a core represents a state: it has all of it, but of each stream only what a queue keeps
-- rule: Refused memory; Kept stream
unfoldable pub Represents : World → World → Type 0
Represents core w = StandsFor core w

-- there is a state that it represents
unfoldable pub StandsForSome : World → Type 0
StandsForSome core = (w : World) × Represents core w

-- a core steps: it represents some state, and whatever state that is, the event is a step from it
abbrev pub core_steps : Steps World
core_steps core event reply core' = StandsForSome core × ((w : World) → Represents core w → (w' : World) × Step w event reply w' × Represents core' w')
