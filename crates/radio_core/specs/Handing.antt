-- What events hand to a listener, and what they bring from a source.
use Rattle.std.specs.Prelude.{ℕ, ◌==◌, Bool, false, if◌then◌else◌, Option, Some, None, List, [], ◌∷◌, ◌++◌}
use Rattle.radio_events.specs.declared.event.Event.{Event}
use Rattle.radio_parts_changes.specs.declared.change.Change.{Change}
use Rattle.radio_parts_changes.specs.declared.change.Change.TheVariants.{Receive}
use Rattle.radio_events.specs.declared.reply.Reply.{Reply}
use Rattle.radio_events.specs.declared.reply.Reply.TheVariants.{Drawn}
use Rattle.radio_parts.specs.Step.{outcome, reply_to, world_after}
use Rattle.radio_events.specs.Events.{client_in}
use Rattle.radio_parts_station.specs.World.{World}

-- the data of a reply
abbrev pub data_in : Reply → List ℕ
data_in (Drawn bytes title) = bytes
data_in _ = []

-- the block that a change takes in
abbrev pub block_in : Change → List ℕ
block_in (Receive mount block) = block
block_in _ = []

abbrev pub is_same_number : ℕ → Option ℕ → Bool
is_same_number id None = false
is_same_number id (Some him) = him == id

-- what an event brings, where it is of the client of this number
abbrev pub of_client : {A : Type 0} → Event → ℕ → List A → List A
of_client event id brought = (if is_same_number id (client_in event) then brought else [])

-- what an event hands to the listener
abbrev pub handed_at : World → Event → ℕ → List ℕ
handed_at w event id = of_client event id (data_in (reply_to w event))

-- all that the events hand to it, joined in their order
-- rule: Without gap or repeat
abbrev pub handed : World → List Event → ℕ → List ℕ
handed w [] id = []
handed w (event ∷ events) id = handed_at w event id ++ handed (world_after w event) events id

-- what an event brings from the source of this number
abbrev pub delivered_at : World → Event → ℕ → List ℕ
delivered_at w event id = of_client event id (block_in (outcome w event).change)

-- all that the source of this number delivers through the events, joined in their order
-- rule: Without gap or repeat
abbrev pub delivered : World → List Event → ℕ → List ℕ
delivered w [] id = []
delivered w (event ∷ events) id = delivered_at w event id ++ delivered (world_after w event) events id
