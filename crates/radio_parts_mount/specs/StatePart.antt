-- One mount's part of the state, and what happens there by itself.
use Rattle.std.specs.Prelude.{ℕ, List, Option, Some}
use Rattle.std.specs.Option.{option_map, option_map_or}
use Rattle.radio_policy.specs.declared.rule.Rule.TheVariants.{Lagged}
use Rattle.radio_tables.specs.Lists.{update_first}
use Rattle.radio_seats_rows.specs.declared.seat.Listener.{Listener}
use Rattle.radio_seats_rows.specs.Seats.{with_ended}
use Rattle.radio_parts_mount.specs.Sessions.{Session, is_of, longer, session_of, with_title}
use Rattle.radio_parts_mount.specs.Stream.{end_of}
use Rattle.radio_parts_mount.specs.Timeouts.{lags_behind}

pub record Part : Type 0 where
  pub mount : List ℕ
  -- its session, if it is live
  pub session : Option Session
  -- listeners, among them all who sit there
  pub listeners : List Listener

-- where the session's stream ends, if there is a session
abbrev pub end_in : Option Session → ℕ
end_in session = option_map_or (λ session. end_of session.stream) session 0

-- where the stream of a mount ends, by these sessions
abbrev pub ends_in : List Session → List ℕ → ℕ
ends_in live mount = end_in (session_of live mount)

-- a block has come at this moment: it is at the end of the stream. Those who sit there and are further behind then than a queue is long have lost their
-- seats
-- rule: Reach of a block; Lagged
abbrev pub part_received : ℕ → ℕ → List ℕ → Part → Part
part_received queue moment block p = let session = option_map (longer block moment) p.session in
    record p { session = session; listeners = with_ended p.listeners (lags_behind p.mount (end_in session) queue) Lagged }

-- this is on the air
-- rule: Reach of a block; Title of a session
abbrev pub part_titled : List ℕ → Part → Part
part_titled title p = record p { session = option_map (with_title (Some title)) p.session }

-- the sessions, with the part's in the place of its mount's, where it has one
abbrev pub with_its_session : List Session → Part → List Session
with_its_session live p = option_map_or (λ session. update_first (is_of p.mount) (λ other. session) live) p.session live
