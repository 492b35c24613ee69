use Rattle.std.specs.Prelude.{ℕ, List}
use Rattle.radio_policy.specs.Verdicts.{verdict_in}
use Rattle.radio_events.specs.declared.reply.Reply.TheVariants.{Noted}
use Rattle.radio_parts_changes.specs.declared.change.Change.TheVariants.{Nothing, Receive}
use Rattle.radio_parts.specs.declared.outcome.Outcome.{Outcome}
use Rattle.radio_parts_station.specs.World.{World, standing_of}
use Rattle.radio_parts_station.specs.Facts.{rows_to_push}
use Rattle.radio_parts.specs.Outcomes.{says, on_verdict, if_feeding}

-- the block comes at the end of the mount's stream
abbrev pub takes_in : List ℕ → List ℕ → Outcome
takes_in mount block = says Noted (Receive mount block)

-- a source delivers a block
-- rule: Blocks of a source
abbrev pub delivers : World → ℕ → List ℕ → Outcome
delivers w id block = if_feeding (standing_of w id) (λ mount.
    on_verdict (verdict_in (rows_to_push w.station mount block)) Nothing (takes_in mount block))
