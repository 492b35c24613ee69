use Rattle.radio_policy.specs.Verdicts.{verdict_in}
use Rattle.radio_parts_station.specs.StationState.{StationState}
use Rattle.radio_events.specs.declared.event.SourceRequest.{SourceRequest}
use Rattle.radio_events.specs.declared.reply.Reply.TheVariants.{Feeding}
use Rattle.radio_parts_changes.specs.declared.change.Change.TheVariants.{Answer, Begin}
use Rattle.radio_parts.specs.declared.outcome.Outcome.{Outcome}
use Rattle.radio_parts_station.specs.World.{World, standing_of}
use Rattle.radio_parts_station.specs.Facts.{rows_to_feed}
use Rattle.radio_parts_station.specs.Streams.{shown_for}
use Rattle.radio_parts.specs.Outcomes.{says, on_verdict, if_undecided}

-- a session begins on the mount, with the client's number
abbrev pub begins : StationState → SourceRequest → Outcome
begins station asked = says Feeding (Begin asked.id asked.mount (shown_for station asked.mount asked.shown))

-- a client wants to feed the mount of this path
-- rule: Session
abbrev pub source_outcome : World → SourceRequest → Outcome
source_outcome w asked = if_undecided (standing_of w asked.id) (λ _.
    on_verdict (verdict_in (rows_to_feed w.station asked)) (Answer asked.id) (begins w.station asked))
