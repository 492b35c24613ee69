-- Runs of the server.
use Rattle.std.specs.Prelude.{List, [], ◌∷◌}
use Rattle.radio_settings_values.specs.declared.settings.Settings.{Settings}
use Rattle.radio_access.specs.Lists.{Lists}
use Rattle.radio_events.specs.declared.event.Event.{Event}
use Rattle.radio_parts_station.specs.World.{World, opening}
use Rattle.radio_parts.specs.Step.{world_after}

-- the state after events, in their order
abbrev pub world_after_all : World → List Event → World
world_after_all w [] = w
world_after_all w (event ∷ events) = world_after_all (world_after w event) events

-- the state after these events from the opening state: every state of every run is one of them
abbrev pub run_after : Settings → Lists → List Event → World
run_after settings lists events = world_after_all (opening settings lists) events
