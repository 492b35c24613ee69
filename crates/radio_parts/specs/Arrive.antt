use Rattle.std.specs.Prelude.{◌+◌}
use Rattle.radio_policy.specs.Verdicts.{verdict_in}
use Rattle.radio_addr.specs.declared.peer.Peer.{Peer}
use Rattle.radio_events.specs.declared.reply.Reply.TheVariants.{Arrived}
use Rattle.radio_parts_changes.specs.declared.change.Change.TheVariants.{Nothing, Admit}
use Rattle.radio_parts.specs.declared.outcome.Outcome.{Outcome}
use Rattle.radio_parts_station.specs.World.{World}
use Rattle.radio_parts_station.specs.Facts.{rows_to_arrive}
use Rattle.radio_parts.specs.Outcomes.{says, on_verdict}

-- the next number is given to a client that has asked for nothing yet
abbrev pub admits_client : World → Peer → Outcome
admits_client w peer = says (Arrived (w.station.last_id + 1)) (Admit (w.station.last_id + 1) peer)

-- a connection arrives
-- rule: Client numbers
abbrev pub arrives : World → Peer → Outcome
arrives w peer = on_verdict (verdict_in (rows_to_arrive w.station peer)) Nothing (admits_client w peer)
