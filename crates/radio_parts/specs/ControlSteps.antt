-- What a control does by an event, over what it has been lent.
use Rattle.std.specs.Prelude.{List, [], ◌∷◌}
use Rattle.radio_events.specs.declared.event.Event.{Event}
use Rattle.radio_events.specs.declared.reply.Reply.{Reply}
use Rattle.radio_parts_changes.specs.Counts.{counted}
use Rattle.radio_parts_changes.specs.KeptChanges.{kept_changed}
use Rattle.radio_parts.specs.Planned.{planned, with_counts}
use Rattle.radio_parts_station.specs.World.{World}

-- the reply, with how many were moved or have finished, if it is one that names them
abbrev pub control_reply : World → Event → Reply
control_reply w event = with_counts (planned w event).reply (counted w (planned w event).change)

-- and what it has then
abbrev pub control_after : World → Event → World
control_after w event = kept_changed w (planned w event).change

abbrev pub three_of : Reply → List Reply
three_of reply = reply ∷ reply ∷ reply ∷ []
