-- One event of the server.
use Rattle.std.specs.Prelude.{◌≡◌}
use Rattle.radio_events.specs.declared.event.Event.{Event}
use Rattle.radio_events.specs.declared.event.Event.TheVariants.{Arrive, Source, Push, SourceEnd, Title, Listen, Draw, Command, Leave}
use Rattle.radio_events.specs.declared.event.Event.TheVariants.{RelayUp, RelayDown, Clock}
use Rattle.radio_events.specs.declared.reply.Reply.{Reply}
use Rattle.radio_parts.specs.declared.outcome.Outcome.{Outcome}
use Rattle.radio_parts_station.specs.World.{World}
use Rattle.radio_parts.specs.Arrive.{arrives}
use Rattle.radio_parts.specs.Source.{source_outcome}
use Rattle.radio_parts.specs.Push.{delivers}
use Rattle.radio_parts.specs.SourceEnd.{stops_feeding}
use Rattle.radio_parts.specs.Title.{sets_title}
use Rattle.radio_parts.specs.Pages.{asks_by_path}
use Rattle.radio_parts.specs.Draw.{draws}
use Rattle.radio_parts.specs.Command.{command_outcome}
use Rattle.radio_parts.specs.Leave.{leaves}
use Rattle.radio_parts.specs.RelayUp.{comes_up}
use Rattle.radio_parts.specs.RelayDown.{goes_down}
use Rattle.radio_parts.specs.Clock.{hears_clock}
use Rattle.radio_parts_changes.specs.Changes.{changed}

-- the outcome of each event
unfoldable pub outcome : World → Event → Outcome
outcome w (Arrive peer) = arrives w peer
outcome w (Source asked) = source_outcome w asked
outcome w (Push id block) = delivers w id block
outcome w (SourceEnd id) = stops_feeding w id
outcome w (Title id text) = sets_title w id text
outcome w (Listen asked) = asks_by_path w asked
outcome w (Draw id room) = draws w id room
outcome w (Command asked) = command_outcome w asked
outcome w (Leave id) = leaves w id
outcome w (RelayUp mount shown) = comes_up w mount shown
outcome w (RelayDown id) = goes_down w id
outcome w (Clock ms) = hears_clock w ms

-- the reply to an event in this state, and the state after it
unfoldable pub reply_to : World → Event → Reply
reply_to w event = (outcome w event).reply

unfoldable pub world_after : World → Event → World
world_after w event = changed w (outcome w event).change

-- in the state w the event is answered by this reply, and the state after it is w'
abbrev pub Step : World → Event → Reply → World → Type 0
Step w event reply w' = (reply ≡ reply_to w event) × (w' ≡ world_after w event)
