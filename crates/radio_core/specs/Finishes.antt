use Rattle.std.specs.Prelude.{◌≡◌, ℕ, true, false, Some, None, List}
use Rattle.radio_policy.specs.declared.rule.Rule.{Rule}
use Rattle.radio_policy.specs.declared.rule.Rule.TheVariants.{Lagged, TimeOver, HeaderTimeout, SourceSilent, Killed, SourceKilled, ListenerPassword}
use Rattle.radio_events.specs.declared.event.Event.{Event}
use Rattle.radio_events.specs.declared.event.Event.TheVariants.{Push, Clock}
use Rattle.radio_parts_station.specs.declared.standing.Standing.TheVariants.{Feeds, Finished as HasFinished}
use Rattle.radio_seats_rows.specs.declared.seat.Seat.{Seat}
use Rattle.radio_events.specs.declared.command.Command.TheVariants.{KillClient, KillSource}
use Rattle.radio_access.specs.Lists.{lets_in}
use Rattle.radio_parts.specs.Allowed.{IsCommanded, ChangesUsers}
use Rattle.radio_parts_station.specs.Clients.{Client, client_of}
use Rattle.radio_parts_station.specs.Facts.{live_end}
use Rattle.radio_core.specs.Moves.{LeavesOut}
use Rattle.radio_parts_mount.specs.Timeouts.{lags_behind, has_sat_out, is_silent}
use Rattle.radio_parts_station.specs.Timeouts.{asks_too_late}
use Rattle.radio_seats_rows.specs.Seats.{seat_of}
use Rattle.radio_parts_mount.specs.Sessions.{Session, session_of}
use Rattle.radio_parts.specs.Step.{world_after}
use Rattle.radio_parts_station.specs.World.{World, standing_of}

-- what there is about the event by which it finishes the client by the rule, where the state was w and is `later`
-- rule: Killed; Source killed
pub data Cause (w later : World) (event : Event) (id : ℕ) : Rule → Type 0 where
  -- the session of the mount where it sits ends, and the rule stops its walk from there at its turn
  SessionIsOver : (rule : Rule) (seat : Seat) → seat_of w.seats id ≡ Some seat → LeavesOut w event id rule → Cause w later event id rule
  -- the source of its mount delivers a block, and it is further behind its end than a queue is long
  IsFarBehind : (him : ℕ) (block : List ℕ) (seat : Seat) → event ≡ Push him block → standing_of w him ≡ Feeds seat.mount → seat_of w.seats id ≡ Some seat
      → lags_behind seat.mount (live_end later.station seat.mount) w.station.settings.limits.queue_size seat ≡ true → Cause w later event id Lagged
  -- it is a moment at which it has sat as long as the mount allows that it asked for
  HasSatOut : (ms : ℕ) (seat : Seat) → event ≡ Clock ms → seat_of w.seats id ≡ Some seat → has_sat_out w.station.settings ms seat ≡ true
      → Cause w later event id TimeOver
  -- it is a moment at which it has asked for nothing in the time that it has for it
  HasAskedNothing : (ms : ℕ) (client : Client) → event ≡ Clock ms → client_of w.station.clients id ≡ Some client
      → asks_too_late w.station.settings.limits.header_timeout ms client ≡ true → Cause w later event id HeaderTimeout
  -- it is a moment at which it, a source, has sent nothing in the time that it has for it
  HasSentNothing : (ms : ℕ) (session : Session) → event ≡ Clock ms → standing_of w id ≡ Feeds session.mount
      → session_of w.station.live session.mount ≡ Some session → is_silent w.station.settings.limits.source_timeout ms session ≡ true
      → Cause w later event id SourceSilent
  -- a command names it, and the mount where it sits
  IsKilled : (seat : Seat) → seat_of w.seats id ≡ Some seat → IsCommanded w event (KillClient seat.mount id) → Cause w later event id Killed
  -- a command changes the users of the mount where it sits, and they do not let it in then
  IsNotAccepted : (seat : Seat) → seat_of w.seats id ≡ Some seat → ChangesUsers w event seat.mount
      → lets_in later.station.lists seat.mount seat.pair ≡ false → Cause w later event id ListenerPassword
  -- a command ends the session that it feeds
  HisSessionIsKilled : (session : Session) → standing_of w id ≡ Feeds session.mount → session_of w.station.live session.mount ≡ Some session
      → IsCommanded w event (KillSource session.mount) → Cause w later event id SourceKilled

-- the event finishes the client by the rule: there is a cause, and that is its standing then,
-- without a seat
-- rule: Killed
pub record Finishes (w : World) (event : Event) (id : ℕ) (rule : Rule) : Type 0 where
  pub cause : Cause w (world_after w event) event id rule
  pub has_finished : standing_of (world_after w event) id ≡ HasFinished rule
  pub has_none : seat_of (world_after w event).seats id ≡ None
