use Rattle.std.specs.Prelude.{ℕ}
use Rattle.radio_events.specs.declared.reply.Reply.TheVariants.{Noted}
use Rattle.radio_parts_changes.specs.declared.change.Change.TheVariants.{End}
use Rattle.radio_parts.specs.declared.outcome.Outcome.{Outcome}
use Rattle.radio_parts_station.specs.World.{World, standing_of, has_relay}
use Rattle.radio_parts.specs.Outcomes.{says, if_feeding, unless_relayed}

-- a source's data have ended; a relay's end with its connection
-- rule: End of a session
abbrev pub stops_feeding : World → ℕ → Outcome
stops_feeding w id = if_feeding (standing_of w id) (λ mount. unless_relayed (has_relay w id) (says Noted (End id mount)))
