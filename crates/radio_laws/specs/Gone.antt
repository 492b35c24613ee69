use Rattle.std.specs.Prelude.{◌≡◌, ℕ, ◌≤◌, false, List, []}
use Rattle.radio_events.specs.declared.event.Event.{Event}
use Rattle.radio_events.specs.declared.event.Event.TheVariants.{Leave, RelayDown}
use Rattle.radio_parts_changes.specs.declared.change.Change.TheVariants.{Nothing}
use Rattle.radio_events.specs.declared.reply.Reply.TheVariants.{Noted, Stray}
use Rattle.radio_parts_station.specs.declared.standing.Standing.TheVariants.{Unknown}
use Rattle.radio_core.specs.Handing.{handed, delivered}
use Rattle.radio_parts.specs.Outcomes.{says}
use Rattle.radio_core.specs.Run.{world_after_all}
use Rattle.radio_parts.specs.Step.{outcome, reply_to}
use Rattle.radio_parts_station.specs.World.{World, standing_of, has_relay}

-- by the event a client leaves, or a relay has gone down
-- rule: Leaving
pub data Leaving (w : World) (id : ℕ) : Event → Type 0 where
  AsClient : has_relay w id ≡ false → Leaving w id (Leave id)
  AsRelay : reply_to w (RelayDown id) ≡ Noted → Leaving w id (RelayDown id)

-- the number was given, and its client or relay is not there any more (numbers are given from 1 on)
-- rule: Leaving
abbrev pub HasLeft : World → ℕ → Type 0
HasLeft w id = (id ≤ w.station.last_id) × (standing_of w id ≡ Unknown)

-- the event is out of place, and nothing changes
abbrev pub IsOutOfPlace : World → Event → Type 0
IsOutOfPlace w event = outcome w event ≡ says Stray Nothing

-- through these events it does not come back, gets nothing, and brings nothing
-- rule: Leaving
pub record StaysGone (w : World) (events : List Event) (id : ℕ) : Type 0 where
  pub is_gone : HasLeft (world_after_all w events) id
  pub is_handed_nothing : handed w events id ≡ []
  pub brings_nothing : delivered w events id ≡ []
