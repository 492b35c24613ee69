-- What each change makes of the state.
use Rattle.std.specs.Prelude.{ℕ, if◌then◌else◌, List, Option, None, Some, filter, fold}
use Rattle.radio_policy.specs.declared.rule.Rule.{Rule}
use Rattle.radio_policy.specs.declared.rule.Rule.TheVariants.{Lagged, TimeOver, SourceSilent, Killed, SourceKilled, ListenerPassword}
use Rattle.radio_settings_values.specs.Options.{options_for}
use Rattle.radio_fallback.specs.declared.moves.Move.{Move}
use Rattle.radio_fallback.specs.declared.moves.Move.TheVariants.{Ended as HasEnded, Up, To}
use Rattle.radio_fallback.specs.Carry.{carried}
use Rattle.radio_events.specs.declared.command.Command.{Command}
use Rattle.radio_events.specs.declared.command.Command.TheVariants.{MoveClients, KillClient, KillSource, SetTitle as NewTitle, SetFallback, AddUser, DeleteUser}
use Rattle.radio_parts_station.specs.declared.clients.ClientState.TheVariants.{Listens, Answered}
use Rattle.radio_parts_changes.specs.declared.change.Change.{Change}
use Rattle.radio_parts_changes.specs.declared.change.Change.TheVariants.{Nothing, Answer, Admit, Begin, Raise, Receive, SetTitle, TakeSeat, Advance, End}
use Rattle.radio_parts_changes.specs.declared.change.Change.TheVariants.{EndAndLeave, Forget, Tick, Obey}
use Rattle.radio_parts_station.specs.Clients.{without_client}
use Rattle.radio_parts_station.specs.Relays.{without_relay}
use Rattle.radio_values.specs.declared.field.Shown.{Shown}
use Rattle.radio_parts_station.specs.StationChanges.{now_in_state, with_arrival, begun, raised, finished_in, falling_back, timed_out_by, with_mount_user, without_mount_user}
use Rattle.radio_parts_station.specs.Outsiders.{is_shut_out}
use Rattle.radio_parts_mount.specs.StatePart.{Part, part_received, part_titled, with_its_session}
use Rattle.radio_parts_mount.specs.Sessions.{Session, session_of, without_session}
use Rattle.radio_seats_rows.specs.Seats.{with_seat, with_place, with_end, with_ended, with_session_at, without_listener}
use Rattle.radio_parts_station.specs.Facts.{live_end, sight_of}
use Rattle.radio_parts_mount.specs.Timeouts.{lags_behind, has_sat_out, is_silent}
use Rattle.radio_parts_station.specs.World.{World}

-- a move has carried listeners along
abbrev pub carried_along : World → Move → World
carried_along w move = record w { seats = (carried (sight_of w.station) move w.seats).seats }

-- the mount's session is over, and its listeners have not had their turns yet
abbrev pub session_over : World → List ℕ → World
session_over w mount = record w { station = record w.station { live = without_session w.station.live mount } }

-- the mount's session has ended; each of its listeners has gone where its walk lands, or has finished by the rule that stops it
-- rule: End of a session
abbrev pub session_ended : World → List ℕ → World
session_ended w mount = carried_along (session_over w mount) (HasEnded mount)

-- the client feeds the mount, and those hear it who sat there waiting for a session; nobody has been called home yet
abbrev pub session_begun : World → ℕ → List ℕ → Shown → World
session_begun w id mount shown = record { station = begun w.station id mount shown; seats = with_session_at w.seats mount id }

-- a relay has come up on the mount, and those hear it who sat there waiting for a session; nobody has been called home yet
abbrev pub session_raised : World → ℕ → List ℕ → Shown → World
session_raised w id mount shown = record { station = raised w.station id mount shown; seats = with_session_at w.seats mount id }

-- a source, or a relay, has come up on the mount: where its settings say so, those have come home who had asked for it
-- rule: Called home; Relay feeds
abbrev pub called_home : World → List ℕ → World
called_home w mount = (if (options_for w.station.settings mount).listeners.fallback_override then carried_along w (Up mount) else w)

-- nothing is left of the client, or of the relay
abbrev pub client_gone : World → ℕ → World
client_gone w id = record {
  station = record w.station { clients = without_client w.station.clients id; relays = without_relay w.station.relays id };
  seats = without_listener w.seats id;
}

-- the listeners of the mount who are further behind than a queue is long have lost their seats
abbrev pub laggards_ended : World → List ℕ → World
laggards_ended w mount =
    record w { seats = with_ended w.seats (lags_behind mount (live_end w.station mount) w.station.settings.limits.queue_size) Lagged }

-- what is at the mount, with all listeners lent to it
abbrev pub part_at : World → List ℕ → Part
part_at w mount = record { mount = mount; session = session_of w.station.live mount; listeners = w.seats }

-- the state with this in the place of what is at its mount
abbrev pub with_part : World → Part → World
with_part w p = record { station = record w.station { live = with_its_session w.station.live p }; seats = p.listeners }

-- the block has come to the mount
-- rule: The clock
abbrev pub block_received : World → List ℕ → List ℕ → World
block_received w mount block = with_part w (part_received w.station.settings.limits.queue_size w.station.time block (part_at w mount))

-- this is on the air at the mount
abbrev pub on_air : World → List ℕ → List ℕ → World
on_air w mount title = with_part w (part_titled title (part_at w mount))

-- the listeners who have had their time have lost their seats
abbrev pub durations_over : World → World
durations_over w = record w { seats = with_ended w.seats (has_sat_out w.station.settings w.station.time) TimeOver }

-- it is this moment, and clients and listeners who have had their time are finished; no session has ended yet
abbrev pub before_silence : World → ℕ → World
before_silence w ms = durations_over (record w { station = timed_out_by w.station ms })

-- the sessions whose sources have sent nothing in their time, in the order of their mounts
-- rule: Source silent
abbrev pub silent_in : World → List Session
silent_in w = filter (is_silent w.station.settings.limits.source_timeout w.station.time) w.station.live

-- the session ends, and its source is finished by the rule
abbrev pub session_ended_by : Rule → World → Session → World
session_ended_by rule w session = let after = session_ended w session.mount in record after { station = finished_in after.station session.number rule }

-- rule: Source silent
abbrev pub session_silenced : World → Session → World
session_silenced w session = session_ended_by SourceSilent w session

-- it is this moment, and what has had its time ends: clients and listeners, and then sessions, one after another
-- rule: The clock
abbrev pub ticked : World → ℕ → World
ticked w ms = let later = before_silence w ms in fold session_silenced later (silent_in later)

-- the session, if there is one, is ended by a command
-- rule: Source killed
abbrev pub session_killed : World → Option Session → World
session_killed w None = w
session_killed w (Some session) = session_ended_by SourceKilled w session

-- those have lost their seats at the mount whom its users do not let in
-- rule: Users shut out
abbrev pub outsiders_ended : World → List ℕ → World
outsiders_ended w mount = record w { seats = with_ended w.seats (is_shut_out w.station.lists mount) ListenerPassword }

-- the users of the mount let this one in with this password, and nobody has lost its seat yet
abbrev pub user_added : World → List ℕ → List ℕ → List ℕ → World
user_added w mount user password = record w { station = with_mount_user w.station mount user password }

-- the users of the mount do not let this one in, and nobody has lost its seat yet
abbrev pub user_deleted : World → List ℕ → List ℕ → World
user_deleted w mount user = record w { station = without_mount_user w.station mount user }

-- what a command does
-- rule: Move clients; Metadata
abbrev pub done : World → Command → World
done w (MoveClients mount destination) = carried_along w (To mount destination)
done w (KillClient mount listener) = record w { seats = with_end w.seats listener Killed }
done w (KillSource mount) = session_killed w (session_of w.station.live mount)
done w (NewTitle mount title) = on_air w mount title
done w (SetFallback mount fallback) = record w { station = falling_back w.station mount fallback }
done w (AddUser mount user password) = outsiders_ended (user_added w mount user password) mount
done w (DeleteUser mount user) = outsiders_ended (user_deleted w mount user) mount

-- the client has had its answer
abbrev pub answered : World → ℕ → World
answered w id = record w { station = now_in_state w.station id Answered }

abbrev pub changed : World → Change → World
changed w Nothing = w
changed w (Answer id) = answered w id
changed w (Admit id peer) = record w { station = with_arrival w.station id peer }
changed w (Begin id mount shown) = called_home (session_begun w id mount shown) mount
changed w (Raise id mount shown) = called_home (session_raised w id mount shown) mount
changed w (Receive mount block) = block_received w mount block
changed w (SetTitle mount title) = on_air w mount title
changed w (TakeSeat id seat) = record { station = now_in_state w.station id Listens; seats = with_seat w.seats id seat }
changed w (Advance id place) = record w { seats = with_place w.seats id place }
changed w (End id mount) = let after = session_ended w mount in record after { station = now_in_state after.station id Answered }
changed w (EndAndLeave id mount) = client_gone (session_ended w mount) id
changed w (Forget id) = client_gone w id
changed w (Tick ms) = ticked w ms
changed w (Obey id command) = done (answered w id) command

-- these changes are never refused for want of memory
abbrev pub ChangeTakesNoMemory : Change → Type 0
ChangeTakesNoMemory Nothing = Unit {0}
ChangeTakesNoMemory (Answer id) = Unit {0}
ChangeTakesNoMemory (SetTitle mount title) = Unit {0}
ChangeTakesNoMemory (Advance id place) = Unit {0}
ChangeTakesNoMemory (End id mount) = Unit {0}
ChangeTakesNoMemory (EndAndLeave id mount) = Unit {0}
ChangeTakesNoMemory (Forget id) = Unit {0}
ChangeTakesNoMemory (Tick ms) = Unit {0}
ChangeTakesNoMemory _ = ⊥
