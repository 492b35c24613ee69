-- Whose connection an event closes.
use Rattle.std.specs.Prelude.{◌≡◌, ℕ, true, false}
use Rattle.radio_events.specs.declared.event.Event.{Event}
use Rattle.radio_events.specs.declared.event.Event.TheVariants.{Leave, RelayDown}
use Rattle.radio_parts_station.specs.World.{World, has_relay}

-- the event closes the connection of the client, or of the relay, of this number
-- rule: Relay goes down
pub data Closes (w : World) (id : ℕ) : Event → Type 0 where
  OfClient : has_relay w id ≡ false → Closes w id (Leave id)
  OfRelay : has_relay w id ≡ true → Closes w id (RelayDown id)
