use Rattle.std.specs.Prelude.{Option, Some, None}
use Rattle.radio_policy.specs.Verdicts.{verdict_in}
use Rattle.radio_addr.specs.declared.peer.Peer.{Peer}
use Rattle.radio_events.specs.declared.event.ListenRequest.{ListenRequest}
use Rattle.radio_parts_station.specs.StationState.{StationState}
use Rattle.radio_events.specs.declared.reply.Reply.TheVariants.{Seated, Stray}
use Rattle.radio_parts_changes.specs.declared.change.Change.TheVariants.{Nothing, Answer, TakeSeat}
use Rattle.radio_parts.specs.declared.outcome.Outcome.{Outcome}
use Rattle.radio_seats_rows.specs.declared.seat.Seat.{Seat}
use Rattle.radio_parts_mount.specs.Sessions.{Session}
use Rattle.radio_parts_mount.specs.Stream.{burst_start}
use Rattle.radio_parts_station.specs.World.{World, standing_of}
use Rattle.radio_fallback.specs.declared.walking.Landing.{Landing}
use Rattle.radio_fallback.specs.declared.walking.Landing.TheVariants.{Lands, Stops}
use Rattle.radio_parts_station.specs.Facts.{rows_to_listen, walks_to}
use Rattle.radio_parts_facts.specs.Streams.{burst_of, head_of, interval_for}
use Rattle.radio_parts.specs.Outcomes.{says, on_verdict, if_undecided}
use Rattle.radio_parts_station.specs.Waiting.{heard_at}

-- the seat of a new listener whose walk landed at a mount with this session, or at one that waits for one.
-- the mount that it asked for is its home, and it begins at the start of a block
-- rule: Start of the burst
abbrev pub first_seat : StationState → ListenRequest → Peer → Session → Seat
first_seat station asked peer session = record {
  home = asked.mount;
  mount = session.mount;
  session = session.number;
  place = burst_start session.stream (burst_of station session.mount);
  peer = peer;
  pair = asked.pair;
  interval = interval_for station asked.mount asked.wants_metadata;
  since = station.time;
}

-- the listener sits down. If the mount has no session and waits for none, nothing happens; no walk lands there
abbrev pub takes_seat : StationState → ListenRequest → Peer → Option Session → Outcome
takes_seat station asked peer None = says Stray Nothing
takes_seat station asked peer (Some session) =
    says (Seated (interval_for station asked.mount asked.wants_metadata) (head_of station session.shown)) (TakeSeat asked.id (first_seat station asked peer session))

-- it sits down where its walk lands. If a rule stops the walk, which the policy denies, nothing happens
-- rule: Seat of a newcomer
abbrev pub sits_where : StationState → ListenRequest → Peer → Landing → Outcome
sits_where station asked peer (Stops rule) = says Stray Nothing
sits_where station asked peer (Lands mount) = takes_seat station asked peer (heard_at station mount)

-- a client wants to hear the mount of this path
-- rule: Start of the burst
abbrev pub listen_outcome : World → ListenRequest → Outcome
listen_outcome w asked = if_undecided (standing_of w asked.id) (λ peer.
    on_verdict (verdict_in (rows_to_listen w asked)) (Answer asked.id) (sits_where w.station asked peer (walks_to w.station w.seats asked.mount asked.pair)))
