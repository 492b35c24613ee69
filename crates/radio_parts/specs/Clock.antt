use Rattle.std.specs.Prelude.{ℕ, nat_lt, if◌then◌else◌}
use Rattle.radio_events.specs.declared.reply.Reply.TheVariants.{Noted}
use Rattle.radio_parts_changes.specs.declared.change.Change.TheVariants.{Nothing, Tick}
use Rattle.radio_parts.specs.declared.outcome.Outcome.{Outcome}
use Rattle.radio_parts_station.specs.World.{World}
use Rattle.radio_parts.specs.Outcomes.{says}

-- it is this moment; one that has passed changes nothing
-- rule: The clock
abbrev pub hears_clock : World → ℕ → Outcome
hears_clock w ms = says Noted (if nat_lt ms w.station.time then Nothing else Tick ms)
