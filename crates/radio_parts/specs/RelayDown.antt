use Rattle.std.specs.Prelude.{ℕ, if◌then◌else◌}
use Rattle.radio_events.specs.declared.reply.Reply.TheVariants.{Noted, Stray}
use Rattle.radio_parts_changes.specs.declared.change.Change.TheVariants.{Nothing, EndAndLeave, Forget}
use Rattle.radio_parts.specs.declared.outcome.Outcome.{Outcome}
use Rattle.radio_parts_station.specs.declared.standing.Standing.{Standing}
use Rattle.radio_parts_station.specs.declared.standing.Standing.TheVariants.{Feeds, Finished}
use Rattle.radio_parts.specs.Outcomes.{says}
use Rattle.radio_parts_station.specs.World.{World, standing_of, has_relay}

-- the connection of a relay of this standing to its master is closed: its session ends first, if it has not ended before
abbrev pub goes_down_from : ℕ → Standing → Outcome
goes_down_from id (Feeds mount) = says Noted (EndAndLeave id mount)
goes_down_from id (Finished rule) = says Noted (Forget id)
goes_down_from id standing = says Stray Nothing

-- a relay's connection to its master is closed
-- rule: Relay goes down
abbrev pub goes_down : World → ℕ → Outcome
goes_down w id = (if has_relay w id then goes_down_from id (standing_of w id) else says Stray Nothing)
