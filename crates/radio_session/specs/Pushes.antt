-- A source's data, delivered in blocks.
use Rattle.std.specs.Prelude.{ℕ, List, map}
use Rattle.radio_blocks.specs.Cutting.{blocks_of}
use Rattle.radio_events.specs.declared.event.Event.{Event}
use Rattle.radio_events.specs.declared.event.Event.TheVariants.{Push}

-- the events by which a source delivers some data, block after block
-- rule: Cut into blocks
abbrev pub pushes : ℕ → List ℕ → List Event
pushes id bytes = map (Push id) (blocks_of bytes)
