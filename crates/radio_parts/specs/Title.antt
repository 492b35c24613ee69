use Rattle.std.specs.Prelude.{ℕ, List}
use Rattle.radio_events.specs.declared.reply.Reply.TheVariants.{Noted}
use Rattle.radio_parts_changes.specs.declared.change.Change.TheVariants.{SetTitle}
use Rattle.radio_parts.specs.declared.outcome.Outcome.{Outcome}
use Rattle.radio_parts_station.specs.World.{World, standing_of}
use Rattle.radio_parts.specs.Outcomes.{says, if_feeding}

-- a source sets the title of what it plays: its mount has this title
-- rule: Title of a session
abbrev pub sets_title : World → ℕ → List ℕ → Outcome
sets_title w id text = if_feeding (standing_of w id) (λ mount. says Noted (SetTitle mount text))
