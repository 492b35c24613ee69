use Rattle.std.specs.Prelude.{ℕ, ◌+◌, List}
use Rattle.radio_policy.specs.Verdicts.{verdict_in}
use Rattle.radio_values.specs.declared.field.Shown.{Shown}
use Rattle.radio_events.specs.declared.reply.Reply.TheVariants.{Arrived}
use Rattle.radio_parts_station.specs.StationState.{StationState}
use Rattle.radio_parts_changes.specs.declared.change.Change.TheVariants.{Nothing, Raise}
use Rattle.radio_parts.specs.declared.outcome.Outcome.{Outcome}
use Rattle.radio_parts_station.specs.World.{World}
use Rattle.radio_parts_station.specs.Facts.{rows_to_raise}
use Rattle.radio_parts.specs.Outcomes.{says, on_verdict}
use Rattle.radio_parts_station.specs.Streams.{shown_for}

-- the next number is given to the relay, and a session of that number begins on the mount
abbrev pub raises : StationState → List ℕ → Shown → Outcome
raises station mount shown = says (Arrived (station.last_id + 1)) (Raise (station.last_id + 1) mount (shown_for station mount shown))

-- a relay wants to feed the mount of this name
-- rule: Relay comes up
abbrev pub comes_up : World → List ℕ → Shown → Outcome
comes_up w mount shown = on_verdict (verdict_in (rows_to_raise w.station mount shown)) Nothing (raises w.station mount shown)
