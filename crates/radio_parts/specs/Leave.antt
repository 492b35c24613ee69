use Rattle.std.specs.Prelude.{ℕ}
use Rattle.radio_events.specs.declared.reply.Reply.TheVariants.{Noted, Stray}
use Rattle.radio_parts_changes.specs.declared.change.Change.TheVariants.{Nothing, EndAndLeave, Forget}
use Rattle.radio_parts.specs.declared.outcome.Outcome.{Outcome}
use Rattle.radio_parts_station.specs.declared.standing.Standing.{Standing}
use Rattle.radio_parts_station.specs.declared.standing.Standing.TheVariants.{Unknown, Feeds}
use Rattle.radio_parts_station.specs.World.{World, standing_of, has_relay}
use Rattle.radio_parts.specs.Outcomes.{says, unless_relayed}

-- the connection of a client of this standing is closed; a source's session ends first
abbrev pub leaves_from : ℕ → Standing → Outcome
leaves_from id Unknown = says Stray Nothing
leaves_from id (Feeds mount) = says Noted (EndAndLeave id mount)
leaves_from id standing = says Noted (Forget id)

-- a client's connection is closed
-- rule: Leaving
abbrev pub leaves : World → ℕ → Outcome
leaves w id = unless_relayed (has_relay w id) (leaves_from id (standing_of w id))
