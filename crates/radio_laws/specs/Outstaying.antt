-- After a clock event nobody is there whose time is over.
use Rattle.std.specs.Prelude.{◌≡◌, ℕ, nat_lt, true, false, List, Some}
use Rattle.radio_events.specs.declared.event.Event.TheVariants.{Clock}
use Rattle.radio_seats_rows.specs.declared.seat.Seat.{Seat}
use Rattle.radio_seats_rows.specs.Seats.{seat_of}
use Rattle.radio_laws.specs.Walks.{FallsBack}
use Rattle.radio_parts_station.specs.Clients.{Client, client_of}
use Rattle.radio_parts_mount.specs.Sessions.{Session, session_of}
use Rattle.radio_parts.specs.Step.{world_after}
use Rattle.radio_parts_mount.specs.Timeouts.{has_sat_out, is_silent}
use Rattle.radio_parts_station.specs.Timeouts.{asks_too_late}
use Rattle.radio_parts_station.specs.declared.standing.Standing.TheVariants.{Finished}
use Rattle.radio_policy.specs.declared.rule.Rule.TheVariants.{HeaderTimeout, TimeOver, SourceSilent, NotLive}
use Rattle.radio_parts_station.specs.Waiting.{is_on_demand}
use Rattle.radio_parts_station.specs.World.{World, standing_of}

-- at this moment no seat has had its time, no client that has asked for nothing, and no source that has sent nothing
-- rule: Time over
pub record IsInTime (w : World) (ms : ℕ) : Type 0 where
  pub is_now : w.station.time ≡ ms
  pub seats : (id : ℕ) (seat : Seat) → seat_of w.seats id ≡ Some seat → has_sat_out w.station.settings ms seat ≡ false
  pub clients : (id : ℕ) (client : Client) → client_of w.station.clients id ≡ Some client → asks_too_late w.station.settings.limits.header_timeout ms client ≡ false
  pub sources : (mount : List ℕ) (session : Session) → session_of w.station.live mount ≡ Some session
      → is_silent w.station.settings.limits.source_timeout ms session ≡ false

-- Which clients end at this moment, and by which rule. First each client that has asked for nothing in its time.
-- Then each listener that has sat as long as its home allows, also if its session ends as well.
-- Then each source that has sent nothing in its time. With it end the listeners left at its mount, if that has no fallback and waits for
-- no other session. If a relay feeds the mount on demand, they wait there
-- rule: End at a waiting mount
pub record IsEndedInOrder (w later : World) (ms : ℕ) : Type 0 where
  pub clients : (id : ℕ) (client : Client) → client_of w.station.clients id ≡ Some client
      → asks_too_late w.station.settings.limits.header_timeout ms client ≡ true → standing_of later id ≡ Finished HeaderTimeout
  pub seats : (id : ℕ) (seat : Seat) → seat_of w.seats id ≡ Some seat → has_sat_out w.station.settings ms seat ≡ true
      → standing_of later id ≡ Finished TimeOver
  pub sources : (mount : List ℕ) (session : Session) → session_of w.station.live mount ≡ Some session
      → is_silent w.station.settings.limits.source_timeout ms session ≡ true → standing_of later session.number ≡ Finished SourceSilent
  pub listeners : (id : ℕ) (seat : Seat) (session : Session) → seat_of w.seats id ≡ Some seat → has_sat_out w.station.settings ms seat ≡ false
      → session_of w.station.live seat.mount ≡ Some session → is_silent w.station.settings.limits.source_timeout ms session ≡ true
      → ((next : List ℕ) → FallsBack w seat.mount next → ⊥) → is_on_demand w.station.settings seat.mount ≡ false → standing_of later id ≡ Finished NotLive
  pub waiting : (id : ℕ) (seat : Seat) (session : Session) → seat_of w.seats id ≡ Some seat → has_sat_out w.station.settings ms seat ≡ false
      → session_of w.station.live seat.mount ≡ Some session → is_silent w.station.settings.limits.source_timeout ms session ≡ true
      → is_on_demand w.station.settings seat.mount ≡ true → seat_of later.seats id ≡ Some (record seat { session = 0; place = 0 })

-- a moment that has passed changes nothing, and any other is in time for all who are there then
-- rule: Time over
pub record NobodyOutstays (w : World) (ms : ℕ) : Type 0 where
  pub earlier : nat_lt ms w.station.time ≡ true → world_after w (Clock ms) ≡ w
  pub later : nat_lt ms w.station.time ≡ false → IsInTime (world_after w (Clock ms)) ms
  pub in_order : nat_lt ms w.station.time ≡ false → IsEndedInOrder w (world_after w (Clock ms)) ms
