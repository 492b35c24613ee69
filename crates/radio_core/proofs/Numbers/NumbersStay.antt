-- the same clients and listeners are there after a change by which nobody comes or goes
use Rattle.std.proofs.Common.{◌≡◌, Bool, true, false, ℕ, Option, Some, None, List, [], ◌∷◌, refl}
use Rattle.std.proofs.Common.{◌∙◌}
use Rattle.radio_core.proofs.Words.{map, if◌then◌else◌, fold, Rule, Lagged, TimeOver, SourceSilent, Killed, SourceKilled, Listener, Seat, is_listener, finished_if, loses, with_ended, ClientState, Ended, Command}
use Rattle.radio_core.proofs.Words.{MoveClients, KillClient, KillSource, SetTitle, SetFallback, AddUser, DeleteUser, Begin, Obey, Client, is_client, in_state, with_client_state, Relay, is_relay, relay_ended}
use Rattle.radio_core.proofs.Words.{with_relay_ended, options_for, Shown, Move, Up, To, numbers_kept, answered, session_killed, changed, carried_along, session_over, session_ended, called_home, block_received}
use Rattle.radio_core.proofs.Words.{session_begun, before_silence, session_silenced, silent_in, ticked, sight_of, Session, session_of, lags_behind, has_sat_out, timed_out, World, numbers_updated, numbers_mapped, Lists}
use Rattle.radio_core.proofs.Words.{with_user_at, without_user_at, is_shut_out, ListenerPassword, outsiders_ended, numbers_hearing}
use Rattle.radio_parts_station.specs.declared.clients.ClientState.TheVariants.{Feeds as IsSource, Answered as HasHisAnswer}
use Rattle.radio_fallback.specs.declared.moves.Move.TheVariants.{Ended as SessionEnds}
use Rattle.radio_core.proofs.Seats.ChangedUsers.{with_lists}

-- the numbers of the clients, those of the relays, and those of the listeners
abbrev pub number_of : Client → ℕ
number_of client = client.id

abbrev pub relay_number : Relay → ℕ
relay_number relay = relay.id

abbrev pub row_of : Listener → ℕ
row_of listener = listener.id

abbrev pub ids : World → List ℕ
ids w = map number_of w.station.clients

abbrev pub relay_ids : World → List ℕ
relay_ids w = map relay_number w.station.relays

abbrev pub rows : World → List ℕ
rows w = map row_of w.seats

-- the same are there
pub record AreTheSame (w later : World) : Type 0 where
  pub same_ids : ids later ≡ ids w
  pub same_relays : relay_ids later ≡ relay_ids w
  pub same_rows : rows later ≡ rows w
  pub same_last : later.station.last_id ≡ w.station.last_id

pub nobody_else : (w : World) → AreTheSame w w
nobody_else w = record { same_ids = refl; same_relays = refl; same_rows = refl; same_last = refl }

then_the_same : (w next later : World) → AreTheSame w next → AreTheSame next later → AreTheSame w later
then_the_same w next later a b = record {
  same_ids = b.same_ids ∙ a.same_ids;
  same_relays = b.same_relays ∙ a.same_relays;
  same_rows = b.same_rows ∙ a.same_rows;
  same_last = b.same_last ∙ a.same_last;
}

pub same_state : (id : ℕ) (state : ClientState) (clients : List Client) → map number_of (in_state clients id state) ≡ map number_of clients
same_state id state clients = numbers_updated number_of (is_client id) (with_client_state state) (λ x. refl) clients

same_finished : (id : ℕ) (rule : Rule) (relays : List Relay) → map relay_number (with_relay_ended relays id rule) ≡ map relay_number relays
same_finished id rule relays = numbers_updated relay_number (is_relay id) (relay_ended rule) (λ x. refl) relays

same_ended : (p : Seat → Bool) (rule : Rule) (seats : List Listener) → map row_of (with_ended seats p rule) ≡ map row_of seats
same_ended p rule seats = numbers_mapped row_of (finished_if p rule) (λ x. refl) seats

same_carried : (w : World) (move : Move) → map row_of (carried_along w move).seats ≡ map row_of w.seats
same_carried w move = numbers_kept (sight_of w.station) move w.seats

-- a command is done
same_killed : (w : World) (found : Option Session) → AreTheSame w (session_killed w found)
same_killed w None = nobody_else w
same_killed w (Some session) = record {
  same_ids = same_state session.number (Ended SourceKilled) w.station.clients;
  same_relays = same_finished session.number SourceKilled w.station.relays;
  same_rows = same_carried (session_over w session.mount) (SessionEnds session.mount);
  same_last = refl;
}

pub same_obeyed : (w : World) (id : ℕ) (command : Command) → AreTheSame w (changed w (Obey id command))
same_obeyed w id command =
    then_the_same w (answered w id) (changed w (Obey id command))
    (record { same_ids = same_state id HasHisAnswer w.station.clients; same_relays = refl; same_rows = refl; same_last = refl }) (by_command command) where
      same_but_seats : (lists : Lists) (mount : List ℕ) → AreTheSame (answered w id) (outsiders_ended (with_lists (answered w id) lists) mount)
      same_but_seats lists mount =
          record { same_ids = refl; same_relays = refl; same_rows = same_ended (is_shut_out lists mount) ListenerPassword w.seats; same_last = refl }

      by_command : (command : Command) → AreTheSame (answered w id) (changed w (Obey id command))
      by_command (MoveClients mount destination) = record { same_ids = refl; same_relays = refl; same_rows = same_carried (answered w id) (To mount destination); same_last = refl }
      by_command (KillClient mount listener) =
          record { same_ids = refl; same_relays = refl; same_rows = numbers_updated row_of (is_listener listener) (loses Killed) (λ x. refl) w.seats; same_last = refl }
      by_command (KillSource mount) = same_killed (answered w id) (session_of w.station.live mount)
      by_command (SetTitle mount text) = record { same_ids = refl; same_relays = refl; same_rows = refl; same_last = refl }
      by_command (SetFallback mount fallback) = record { same_ids = refl; same_relays = refl; same_rows = refl; same_last = refl }
      by_command (AddUser mount user password) = same_but_seats (with_user_at w.station.lists mount user password) mount
      by_command (DeleteUser mount user) = same_but_seats (without_user_at w.station.lists mount user) mount

pub same_over_rows : (w : World) (mount : List ℕ) → map row_of (session_ended w mount).seats ≡ map row_of w.seats
same_over_rows w mount = same_carried (session_over w mount) (SessionEnds mount)

-- by the clock nobody comes or goes
same_silenced : (sessions : List Session) (w : World) → AreTheSame w (fold session_silenced w sessions)
same_silenced [] w = nobody_else w
same_silenced (session ∷ sessions) w =
    let next = session_silenced w session in
    then_the_same w next (fold session_silenced next sessions) (record {
      same_ids = same_state session.number (Ended SourceSilent) w.station.clients;
      same_relays = same_finished session.number SourceSilent w.station.relays;
      same_rows = same_over_rows w session.mount;
      same_last = refl;
    }) (same_silenced sessions next)

pub same_ticked : (w : World) (ms : ℕ) → AreTheSame w (ticked w ms)
same_ticked w ms =
    let later = before_silence w ms in
    then_the_same w later (ticked w ms) (record {
      same_ids = numbers_mapped number_of (timed_out w.station.settings.limits.header_timeout ms) (λ x. refl) w.station.clients;
      same_relays = refl;
      same_rows = same_ended (has_sat_out w.station.settings ms) TimeOver w.seats;
      same_last = refl;
    }) (same_silenced (silent_in later) later)

-- nor where a source comes up
pub same_called : (w : World) (mount : List ℕ) → AreTheSame w (called_home w mount)
same_called w mount = by_test (options_for w.station.settings mount).listeners.fallback_override where
  by_test : (b : Bool) → AreTheSame w (if b then carried_along w (Up mount) else w)
  by_test true = record { same_ids = refl; same_relays = refl; same_rows = same_carried w (Up mount); same_last = refl }
  by_test false = nobody_else w

pub same_begun : (w : World) (id : ℕ) (mount : List ℕ) (shown : Shown) → AreTheSame w (changed w (Begin id mount shown))
same_begun w id mount shown =
    let up = session_begun w id mount shown in
    then_the_same w up (changed w (Begin id mount shown))
    (record {
      same_ids = same_state id (IsSource mount) w.station.clients;
      same_relays = refl;
      same_rows = numbers_hearing mount id w.seats;
      same_last = refl;
    }) (same_called up mount)

pub same_received : (w : World) (mount block : List ℕ) → AreTheSame w (block_received w mount block)
same_received w mount block = record {
  same_ids = refl;
  same_relays = refl;
  same_rows = same_ended (lags_behind mount _ w.station.settings.limits.queue_size) Lagged w.seats;
  same_last = refl;
}
