-- Histories: events with their replies, in the order in which they happened.
use Rattle.std.specs.Prelude.{◌≡◌, List, [], ◌∷◌, map}
use Rattle.radio_parts_station.specs.World.{World}
use Rattle.radio_core.specs.Run.{world_after_all}
use Rattle.radio_parts.specs.Step.{reply_to, world_after}
use Rattle.radio_events.specs.declared.entry.Entry.{Entry}

-- the state after a history's events, from this state
abbrev pub world_of : World → List Entry → World
world_of w history = world_after_all w (map (λ e. e.event) history)

-- each reply is that of a step from the state after the entries before it
-- rule: Legal history
abbrev pub IsRun : World → List Entry → Type 0
IsRun w [] = Unit {0}
IsRun w (e ∷ history) = (e.reply ≡ reply_to w e.event) × IsRun (world_after w e.event) history
