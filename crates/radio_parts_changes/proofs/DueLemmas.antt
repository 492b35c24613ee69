-- before anything is due a clock changes the time alone, and a moment from which on all is due stays one, where it is not past what a change brings
use Rattle.std.proofs.Common.{◌≡◌, ℕ, ◌<◌, ◌≤◌, Bool, true, false, Option, Some, None, List, [], ◌∷◌, min, Result, Ok, Err, OnOk, OnErr, refl, ap, sym, subst, ◌∙◌, arith}
use Rattle.radio_parts_changes.proofs.Words.{if◌then◌else◌, fold, filter, map, not, HeaderTimeout, TimeOver, SourceSilent, Lagged, Killed, SourceKilled, Each, Each_each, Each_kept, Each_updated, Each_mapped, Each_placed}
use Rattle.radio_parts_changes.proofs.Words.{Listener, is_listener, by_listener, seated, advanced, lost_by, loses, holds_of, finished_if, with_ended, hears_session, in_session_at, with_session_at, Move, changed}
use Rattle.radio_parts_changes.proofs.Words.{answered, done, session_ended_by, session_killed, carried_along, session_over, session_ended, called_home, client_gone, before_silence, session_begun, session_raised}
use Rattle.radio_parts_changes.proofs.Words.{session_silenced, silent_in, ticked, on_air, last_moment, due_at, listener_due, session_due, earliest, due_in_state, client_due, first_due, IsDueFrom, due_by, at_moment}
use Rattle.radio_parts_changes.proofs.Words.{longer_kept, kept_received, Session, session_of, is_of, by_mount, opened, with_title, lags_behind, has_sat_out, is_silent, not_yet, has_not_sat_out, from_earliest}
use Rattle.radio_parts_changes.proofs.Words.{due_by_last, duration_by_last, ended_due, heard_due, moved_due, lost_due, none_pass, World, ListenerPassword}
use Rattle.radio_policy.specs.declared.rule.Rule.{Rule}
use Rattle.radio_settings_values.specs.Options.{options_for}
use Rattle.radio_seats_rows.specs.declared.seat.Seat.{Seat}
use Rattle.radio_seats_rows.specs.declared.seat.Seating.TheVariants.{Finished, Sits}
use Rattle.radio_events.specs.declared.command.Command.{Command}
use Rattle.radio_events.specs.declared.command.Command.TheVariants.{MoveClients, KillClient, KillSource, SetTitle as NewTitle, SetFallback, AddUser, DeleteUser}
use Rattle.radio_parts_station.specs.declared.clients.ClientState.{ClientState}
use Rattle.radio_parts_station.specs.declared.clients.ClientState.TheVariants.{Undecided, Feeds, Listens, Answered, Ended}
use Rattle.radio_parts_changes.specs.declared.change.Change.{Change}
use Rattle.radio_parts_changes.specs.declared.change.Change.TheVariants.{Nothing, Answer, Admit, Begin, Raise, Receive, SetTitle, TakeSeat, Advance, End}
use Rattle.radio_parts_changes.specs.declared.change.Change.TheVariants.{EndAndLeave, Forget, Tick, Obey}
use Rattle.radio_fallback.specs.declared.moves.Move.TheVariants.{Ended as SessionEnds, Up, To}
use Rattle.radio_fallback.proofs.Faring.{each_carried}
use Rattle.radio_parts_changes.proofs.PartChanges.{is_on_air}
use Rattle.radio_parts_station.specs.Clients.{Client, undecided_client, is_client, by_number, with_client_state, in_state}
use Rattle.radio_parts_station.specs.Facts.{live_end, sight_of}
use Rattle.radio_parts_changes.specs.KeptChanges.{kept_changed}
use Rattle.radio_parts_station.specs.Timeouts.{asks_nothing, asks_too_late, timed_out}
use Rattle.radio_access.specs.Lists.{with_user_at, without_user_at}
use Rattle.radio_parts_station.specs.Outsiders.{is_shut_out}
use Rattle.radio_seats_rows.specs.declared.seat.Seating.{Seating}

-- before it is due, nothing has had its time

may_ask_yet : (seconds ms arrived : ℕ) (state : ClientState) → ms < due_in_state seconds arrived state → asks_nothing seconds ms arrived state ≡ false
may_ask_yet seconds ms arrived Undecided before = not_yet seconds arrived ms before
may_ask_yet seconds ms arrived (Feeds mount) before = refl
may_ask_yet seconds ms arrived Listens before = refl
may_ask_yet seconds ms arrived Answered before = refl
may_ask_yet seconds ms arrived (Ended rule) before = refl

-- so a clock changes the time alone

map_same : {X : Type 0} (f : X → X) (xs : List X) → Each (λ x. f x ≡ x) xs → map f xs ≡ xs
map_same f [] all = refl
map_same f (x ∷ xs) all = ap (λ y. y ∷ map f xs) all.0 ∙ ap (λ ys. x ∷ ys) (map_same f xs all.1)

module _ (w : World) (moment ms : ℕ) (due : IsDueFrom moment w) (before : ms < moment) where
  nobody_times_out : map (timed_out w.station.settings.limits.header_timeout ms) w.station.clients ≡ w.station.clients
  nobody_times_out =
      let seconds = w.station.settings.limits.header_timeout in
      map_same (timed_out seconds ms) w.station.clients
      (Each_each (λ client. moment ≤ client_due seconds client) (λ client. timed_out seconds ms client ≡ client)
      (λ client h. ap (λ (b : Bool). with_client_state (if b then Ended HeaderTimeout else client.state) client)
      (may_ask_yet seconds ms client.arrived client.state (omega (arith, before, h)))) w.station.clients due.clients)

  nobody_sits_out : with_ended w.seats (has_sat_out w.station.settings ms) TimeOver ≡ w.seats
  nobody_sits_out =
      map_same (finished_if (has_sat_out w.station.settings ms) TimeOver) w.seats
      (Each_each (λ listener. moment ≤ listener_due w.station.settings listener)
      (λ listener. finished_if (has_sat_out w.station.settings ms) TimeOver listener ≡ listener)
      (λ listener h. ap (λ (b : Bool). record listener { seating = (if b then lost_by TimeOver listener.seating else listener.seating) })
      (has_not_sat_out w.station.settings ms listener.seating listener.id (omega (arith, before, h)))) w.seats due.listeners)

  nobody_is_silent : filter (is_silent w.station.settings.limits.source_timeout ms) w.station.live ≡ []
  nobody_is_silent =
      let seconds = w.station.settings.limits.source_timeout in
      none_pass (is_silent seconds ms) w.station.live
      (Each_each (λ session. moment ≤ session_due seconds session) (λ session. is_silent seconds ms session ≡ false)
      (λ session h. not_yet seconds session.last_block ms (omega (arith, before, h))) w.station.live due.sessions)

  pub only_time_changes : at_moment w ms ≡ ticked w ms
  only_time_changes = sym (
      ap (λ clients. all_silenced (record { station = record w.station { time = ms; clients = clients }; seats = with_ended w.seats (has_sat_out w.station.settings ms) TimeOver }))
      nobody_times_out
      ∙ ap (λ seats. all_silenced (record (at_moment w ms) { seats = seats })) nobody_sits_out
      ∙ ap (λ sessions. fold session_silenced (at_moment w ms) sessions) nobody_is_silent) where
        all_silenced : World → World
        all_silenced later = fold session_silenced later (silent_in later)

-- all is due at the earliest moment or later

pub due_from_first : (w : World) → IsDueFrom (first_due w) w
due_from_first w =
    let clients = earliest (client_due w.station.settings.limits.header_timeout) w.station.clients in
    let listeners = earliest (listener_due w.station.settings) w.seats in
    let sessions = earliest (session_due w.station.settings.limits.source_timeout) w.station.live in
    let first : first_due w ≡ min clients (min listeners sessions) = refl in
    record {
      clients = from_earliest (client_due w.station.settings.limits.header_timeout) (first_due w) w.station.clients (omega (arith, first));
      listeners = from_earliest (listener_due w.station.settings) (first_due w) w.seats (omega (arith, first));
      sessions = from_earliest (session_due w.station.settings.limits.source_timeout) (first_due w) w.station.live (omega (arith, first));
    }

-- and so it is from any moment before

pub due_earlier : (w : World) (moment earlier : ℕ) → earlier ≤ moment → IsDueFrom moment w → IsDueFrom earlier w
due_earlier w moment earlier h due = record {
  clients = Each_each _ _ (λ client k. omega (arith, h, k)) w.station.clients due.clients;
  listeners = Each_each _ _ (λ listener k. omega (arith, h, k)) w.seats due.listeners;
  sessions = Each_each _ _ (λ session k. omega (arith, h, k)) w.station.live due.sessions;
}

-- what is due is due by the last moment

brings_by_last : (w : World) (change : Change) → due_by w change ≤ last_moment
brings_by_last w Nothing = omega arith
brings_by_last w (Answer id) = omega arith
brings_by_last w (Admit id peer) = due_by_last w.station.settings.limits.header_timeout w.station.time
brings_by_last w (Begin id mount shown) = due_by_last w.station.settings.limits.source_timeout w.station.time
brings_by_last w (Raise id mount shown) = due_by_last w.station.settings.limits.source_timeout w.station.time
brings_by_last w (Receive mount block) = due_by_last w.station.settings.limits.source_timeout w.station.time
brings_by_last w (SetTitle mount title) = omega arith
brings_by_last w (TakeSeat id seat) = duration_by_last (options_for w.station.settings seat.home).listeners.max_listener_duration seat.since
brings_by_last w (Advance id place) = omega arith
brings_by_last w (End id mount) = omega arith
brings_by_last w (EndAndLeave id mount) = omega arith
brings_by_last w (Forget id) = omega arith
brings_by_last w (Tick ms) = omega arith
brings_by_last w (Obey id command) = omega arith

-- a change brings nothing that is due earlier

module _ (moment : ℕ) (last : moment ≤ last_moment) where
  abbrev ClientsAreDue : World → List Client → Type 0
  ClientsAreDue w clients = Each (λ client. moment ≤ client_due w.station.settings.limits.header_timeout client) clients

  abbrev ListenersAreDue : World → List Listener → Type 0
  ListenersAreDue w seats = Each (λ listener. moment ≤ listener_due w.station.settings listener) seats

  ended_are_due : (w : World) (p : Seat → Bool) (rule : Rule) → ListenersAreDue w w.seats → ListenersAreDue w (with_ended w.seats p rule)
  ended_are_due w p rule all =
      Each_mapped _ _ (finished_if p rule) (λ listener h. ended_due moment last w.station.settings rule listener.id listener.seating (holds_of p listener.seating) h) w.seats all

  same_due : (w : World) (mount : List ℕ) (session : ℕ) (listener : Listener)
      → listener_due w.station.settings (hears_session mount session listener) ≡ listener_due w.station.settings listener
  same_due w mount session listener = by_seating listener.seating where
    by_seating : (seating : Seating) → listener_due w.station.settings (record { id = listener.id; seating = in_session_at mount session seating })
        ≡ listener_due w.station.settings (record { id = listener.id; seating = seating })
    by_seating (Sits seat) = refl
    by_seating (Finished rule last) = refl

  given_are_due : (w : World) (mount : List ℕ) (session : ℕ) → ListenersAreDue w w.seats → ListenersAreDue w (with_session_at w.seats mount session)
  given_are_due w mount session all =
      Each_mapped _ _ (hears_session mount session) (λ listener h. omega (arith, h, same_due w mount session listener)) w.seats all

  carried_due : (w : World) (move : Move) → ListenersAreDue w w.seats → ListenersAreDue w (carried_along w move).seats
  carried_due w move all =
      each_carried (λ listener. moment ≤ listener_due w.station.settings listener)
      (λ to session place listener h. moved_due moment last w.station.settings to session place listener.id listener.seating h)
      (λ rule listener h. lost_due moment last w.station.settings rule listener.id listener.seating h) (sight_of w.station) move w.seats all

  over_due : (w : World) (mount : List ℕ) → IsDueFrom moment w → IsDueFrom moment (session_ended w mount)
  over_due w mount due = record {
    clients = due.clients;
    listeners = carried_due (session_over w mount) (SessionEnds mount) due.listeners;
    sessions = Each_kept _ _ (λ session. not (is_of mount session)) (λ session h e. h) w.station.live due.sessions;
  }

  called_due : (w : World) (mount : List ℕ) → IsDueFrom moment w → IsDueFrom moment (called_home w mount)
  called_due w mount due = by_test (options_for w.station.settings mount).listeners.fallback_override where
    by_test : (b : Bool) → IsDueFrom moment (if b then carried_along w (Up mount) else w)
    by_test true = record { clients = due.clients; listeners = carried_due w (Up mount) due.listeners; sessions = due.sessions }
    by_test false = due

  forgotten_due : (w : World) (id : ℕ) → IsDueFrom moment w → IsDueFrom moment (client_gone w id)
  forgotten_due w id due = record {
    clients = Each_kept _ _ (λ client. not (is_client id client)) (λ client h e. h) w.station.clients due.clients;
    listeners = Each_kept _ _ (λ listener. not (is_listener id listener)) (λ listener h e. h) w.seats due.listeners;
    sessions = due.sessions;
  }

  answered_are_due : (w : World) (id : ℕ) → ClientsAreDue w w.station.clients → ClientsAreDue w (in_state w.station.clients id Answered)
  answered_are_due w id all = Each_updated _ (is_client id) (with_client_state Answered) (λ client h. last) w.station.clients all

  ended_by_due : (rule : Rule) (w : World) (session : Session) → IsDueFrom moment w → IsDueFrom moment (session_ended_by rule w session)
  ended_by_due rule w session due =
      let over = over_due w session.mount due in
      record {
        clients = Each_updated _ (is_client session.number) (with_client_state (Ended rule)) (λ client h. last) w.station.clients over.clients;
        listeners = over.listeners;
        sessions = over.sessions;
      }

  killed_due : (w : World) (found : Option Session) → IsDueFrom moment w → IsDueFrom moment (session_killed w found)
  killed_due w None due = due
  killed_due w (Some session) due = ended_by_due SourceKilled w session due

  answered_due : (w : World) (id : ℕ) → IsDueFrom moment w → IsDueFrom moment (answered w id)
  answered_due w id due = record { clients = answered_are_due w id due.clients; listeners = due.listeners; sessions = due.sessions }

  on_air_due : (w : World) (mount title : List ℕ) → IsDueFrom moment w → IsDueFrom moment (on_air w mount title)
  on_air_due w mount title due = subst (λ (later : World). IsDueFrom moment later) (sym (is_on_air w mount title)) (record {
    clients = due.clients;
    listeners = due.listeners;
    sessions = Each_updated _ (is_of mount) (with_title (Some title)) (λ session h. h) w.station.live due.sessions;
  })

  -- a command is done
  done_due : (w : World) (command : Command) → IsDueFrom moment w → IsDueFrom moment (done w command)
  done_due w (MoveClients mount destination) due =
      record { clients = due.clients; listeners = carried_due w (To mount destination) due.listeners; sessions = due.sessions }
  done_due w (KillClient mount listener) due = record {
    clients = due.clients;
    listeners = Each_updated _ (is_listener listener) (loses Killed) (λ x h. lost_due moment last w.station.settings Killed x.id x.seating h) w.seats due.listeners;
    sessions = due.sessions;
  }
  done_due w (KillSource mount) due = killed_due w (session_of w.station.live mount) due
  done_due w (NewTitle mount title) due = on_air_due w mount title due
  done_due w (SetFallback mount fallback) due = record { clients = due.clients; listeners = due.listeners; sessions = due.sessions }
  done_due w (AddUser mount user password) due = record {
    clients = due.clients;
    listeners = ended_are_due w (is_shut_out (with_user_at w.station.lists mount user password) mount) ListenerPassword due.listeners;
    sessions = due.sessions;
  }
  done_due w (DeleteUser mount user) due = record {
    clients = due.clients;
    listeners = ended_are_due w (is_shut_out (without_user_at w.station.lists mount user) mount) ListenerPassword due.listeners;
    sessions = due.sessions;
  }

  silence_due : (sessions : List Session) (w : World) → IsDueFrom moment w → IsDueFrom moment (fold session_silenced w sessions)
  silence_due [] w due = due
  silence_due (session ∷ sessions) w due = silence_due sessions (session_silenced w session) (ended_by_due SourceSilent w session due)

  timed_out_due : (seconds ms : ℕ) (client : Client) (late : Bool) → moment ≤ client_due seconds client
      → moment ≤ client_due seconds (with_client_state (if late then Ended HeaderTimeout else client.state) client)
  timed_out_due seconds ms client true h = last
  timed_out_due seconds ms client false h = h

  ticked_due : (w : World) (ms : ℕ) → IsDueFrom moment w → IsDueFrom moment (ticked w ms)
  ticked_due w ms due =
      let seconds = w.station.settings.limits.header_timeout in
      let later = before_silence w ms in
      silence_due (silent_in later) later (record {
        clients = Each_mapped _ _ (timed_out seconds ms) (λ client h. timed_out_due seconds ms client (asks_too_late seconds ms client) h) w.station.clients due.clients;
        listeners = ended_are_due w (has_sat_out w.station.settings ms) TimeOver due.listeners;
        sessions = due.sessions;
      })

  received_due : (w : World) (mount block : List ℕ) → IsDueFrom moment w → moment ≤ due_at w.station.settings.limits.source_timeout w.station.time
      → IsDueFrom moment (kept_changed w (Receive mount block))
  received_due w mount block due h = record {
    clients = due.clients;
    listeners = ended_are_due w (lags_behind mount (live_end (kept_received w.station mount block) mount) w.station.settings.limits.queue_size) Lagged due.listeners;
    sessions = Each_updated _ (is_of mount) (longer_kept w.station.settings.limits.queue_size block w.station.time) (λ session k. h) w.station.live due.sessions;
  }

  stays_due : (w : World) (change : Change) → IsDueFrom moment w → moment ≤ due_by w change → IsDueFrom moment (kept_changed w change)
  stays_due w Nothing due h = due
  stays_due w (Answer id) due h = answered_due w id due
  stays_due w (Admit id peer) due h = record {
    clients = Each_placed _ by_number (undecided_client id peer w.station.time) w.station.clients h due.clients;
    listeners = due.listeners;
    sessions = due.sessions;
  }
  stays_due w (Begin id mount shown) due h = called_due (session_begun w id mount shown) mount (record {
    clients = Each_updated _ (is_client id) (with_client_state (Feeds mount)) (λ client k. last) w.station.clients due.clients;
    listeners = given_are_due w mount id due.listeners;
    sessions = Each_placed _ by_mount (opened mount id shown w.station.time) w.station.live h due.sessions;
  })
  stays_due w (Raise id mount shown) due h = called_due (session_raised w id mount shown) mount (record {
    clients = due.clients;
    listeners = given_are_due w mount id due.listeners;
    sessions = Each_placed _ by_mount (opened mount id shown w.station.time) w.station.live h due.sessions;
  })
  stays_due w (Receive mount block) due h = received_due w mount block due h
  stays_due w (SetTitle mount title) due h = on_air_due w mount title due
  stays_due w (TakeSeat id seat) due h = record {
    clients = Each_updated _ (is_client id) (with_client_state Listens) (λ client k. last) w.station.clients due.clients;
    listeners = Each_placed _ by_listener (seated id seat) w.seats h due.listeners;
    sessions = due.sessions;
  }
  stays_due w (Advance id place) due h = record {
    clients = due.clients;
    listeners = Each_updated _ (is_listener id) (advanced place) (λ listener k. heard_due moment last w.station.settings place listener.id listener.seating k) w.seats due.listeners;
    sessions = due.sessions;
  }
  stays_due w (End id mount) due h =
      let over = over_due w mount due in
      record { clients = answered_are_due w id over.clients; listeners = over.listeners; sessions = over.sessions }
  stays_due w (EndAndLeave id mount) due h = forgotten_due (session_ended w mount) id (over_due w mount due)
  stays_due w (Forget id) due h = forgotten_due w id due
  stays_due w (Tick ms) due h = ticked_due w ms due
  stays_due w (Obey id command) due h = done_due (answered w id) command (answered_due w id due)

due_after : (w : World) (change : Change) (moment : ℕ) → IsDueFrom moment w
    → IsDueFrom (min moment (due_by w change)) (kept_changed w change)
due_after w change moment due =
    let sooner = min moment (due_by w change) in
    stays_due sooner (omega (arith, brings_by_last w change)) w change (due_earlier w moment sooner (omega arith) due) (omega arith)

-- also where the change was refused
pub due_committed : {A E : Type 0} (w later : World) (change : Change) (moment : ℕ) (result : Result A E) → OnOk result (later ≡ kept_changed w change)
    → OnErr result (later ≡ w) → IsDueFrom moment w → IsDueFrom (min moment (due_by w change)) later
due_committed w later change moment (Ok done) ok err due =
    subst (λ (x : World). IsDueFrom (min moment (due_by w change)) x) (sym ok) (due_after w change moment due)
due_committed w later change moment (Err refused) ok err due =
    subst (λ (x : World). IsDueFrom (min moment (due_by w change)) x) (sym err) (due_earlier w moment (min moment (due_by w change)) (omega arith) due)

-- who has heard its stream up to a place is due when it was
pub advanced_due : (w : World) (id place moment : ℕ) → moment ≤ last_moment → IsDueFrom moment w → IsDueFrom moment (changed w (Advance id place))
advanced_due w id place moment last due = stays_due moment last w (Advance id place) due last
