-- through each event, a client who is there keeps the address from which it came, and the moment
use Rattle.std.proofs.Common.{◌≡◌, true, ℕ, ◌==◌, ◌+◌, Option, Some, None, List, [], ◌∷◌, map, refl, ap, sym, subst, ◌∙◌, arith}
use Rattle.radio_core.proofs.Words.{fold, option_map, nat_tests, Peer, by_number, Command, MoveClients, KillClient, KillSource, SetTitle, SetFallback, AddUser, DeleteUser, Event, ClientState, Listens, Outcome, Admit}
use Rattle.radio_core.proofs.Words.{Obey, Unknown, StationState, shown_for, answered, session_killed, changed, before_silence, session_silenced, silent_in, ticked, session_begun, session_raised, ArrivalsStay, Client}
use Rattle.radio_core.proofs.Words.{client_of, with_client_state, in_state, without_client, Session, session_of, IsSound, outcome, world_after, timed_out, Way, Misplaced, IsFinished, IsDenied, IsRefused, IsAdmitted}
use Rattle.radio_core.proofs.Words.{Begins, ComesUp, Receives, SetsTitle, TakesSeat, HandsOut, Ends, EndsAndLeaves, Leaves, GoesDown, Obeys, Shows, HasPassed, Ticks, World, standing_of, station_called, does, still_none}
use Rattle.radio_core.proofs.Words.{beside_state, is_no_client, beside_forgotten, beside_new, way_of}
use Rattle.radio_parts_station.specs.declared.clients.ClientState.TheVariants.{Undecided as IsNew, Feeds as IsSource, Answered as HasHisAnswer}
use Rattle.radio_core.proofs.Sessions.TickLemmas.{clients_after}
use Rattle.radio_core.proofs.Clients.Standings.{no_client_there}

-- it was there before, from the same address and from the same moment on
record WasThere (xs : List Client) (id : ℕ) (later : Client) : Type 0 where
  pub client : Client
  pub there : client_of xs id ≡ Some client
  pub peer : later.peer ≡ client.peer
  pub arrived : later.arrived ≡ client.arrived

-- nobody comes, and who is there was there
abbrev Keeps : List Client → List Client → Type 0
Keeps xs ys = (id : ℕ) (later : Client) → client_of ys id ≡ Some later → WasThere xs id later

same_clients : (xs : List Client) → Keeps xs xs
same_clients xs id later e = record { client = later; there = e; peer = refl; arrived = refl }

keeps_then : (xs ys zs : List Client) → Keeps xs ys → Keeps ys zs → Keeps xs zs
keeps_then xs ys zs first second id later e =
    let middle = second id later e in
    let before = first id middle.client middle.there in
    record { client = before.client; there = before.there; peer = middle.peer ∙ before.peer; arrived = middle.arrived ∙ before.arrived }

keeps_state : (xs : List Client) (him : ℕ) (state : ClientState) → Keeps xs (in_state xs him state)
keeps_state xs him state id later e =
    by_number him id
    (λ same. by_found same (client_of xs him) refl)
    (λ apart. record { client = later; there = sym (beside_state xs him id apart state) ∙ e; peer = refl; arrived = refl }) where
      by_found : him ≡ id → (found : Option Client) → client_of xs him ≡ found → WasThere xs id later
      by_found same None none =
          let now : client_of (in_state xs him state) id ≡ None = ap (client_of (in_state xs him state)) (sym same) ∙ still_none him state xs none in cc
      by_found same (Some client) there =
          let now : Some (with_client_state state client) ≡ Some later =
          sym (does xs him state client there) ∙ ap (client_of (in_state xs him state)) same ∙ e in
          let one : with_client_state state client ≡ later = cc in
          record {
            client = client;
            there = ap (client_of xs) (sym same) ∙ there;
            peer = ap (λ (x : Client). x.peer) (sym one);
            arrived = ap (λ (x : Client). x.arrived) (sym one);
          }

keeps_forgotten : (xs : List Client) (him : ℕ) → Keeps xs (without_client xs him)
keeps_forgotten xs him id later e =
    by_number him id
    (λ same. let none : client_of (without_client xs him) id ≡ None = ap (client_of (without_client xs him)) (sym same) ∙ is_no_client xs him in cc)
    (λ apart. record { client = later; there = sym (beside_forgotten xs him id apart) ∙ e; peer = refl; arrived = refl })

keeps_timed : (seconds ms : ℕ) (xs : List Client) → Keeps xs (map (timed_out seconds ms) xs)
keeps_timed seconds ms xs id later e = by_found (client_of xs id) refl (sym (clients_after seconds ms xs id) ∙ e) where
  by_found : (found : Option Client) → client_of xs id ≡ found → option_map (timed_out seconds ms) (client_of xs id) ≡ Some later → WasThere xs id later
  by_found None none h =
      let nothing : option_map (timed_out seconds ms) (client_of xs id) ≡ None = ap (option_map (timed_out seconds ms)) none in cc
  by_found (Some client) there h =
      let now : Some (timed_out seconds ms client) ≡ Some later = sym (ap (option_map (timed_out seconds ms)) there) ∙ h in
      let one : timed_out seconds ms client ≡ later = cc in
      record {
        client = client;
        there = there;
        peer = ap (λ (x : Client). x.peer) (sym one);
        arrived = ap (λ (x : Client). x.arrived) (sym one);
      }

keeps_silenced : (sessions : List Session) (w : World) → Keeps w.station.clients (fold session_silenced w sessions).station.clients
keeps_silenced [] w = same_clients w.station.clients
keeps_silenced (session ∷ sessions) w =
    let next = session_silenced w session in
    keeps_then w.station.clients next.station.clients (fold session_silenced next sessions).station.clients (keeps_state w.station.clients session.number _)
    (keeps_silenced sessions next)

keeps_ticked : (w : World) (ms : ℕ) → Keeps w.station.clients (ticked w ms).station.clients
keeps_ticked w ms =
    let later = before_silence w ms in
    keeps_then w.station.clients later.station.clients (ticked w ms).station.clients
    (keeps_timed w.station.settings.limits.header_timeout ms w.station.clients) (keeps_silenced (silent_in later) later)

keeps_killed : (w : World) (found : Option Session) → Keeps w.station.clients (session_killed w found).station.clients
keeps_killed w None = same_clients w.station.clients
keeps_killed w (Some session) = keeps_state w.station.clients session.number _

keeps_obeyed : (w : World) (him : ℕ) (command : Command) → Keeps w.station.clients (changed w (Obey him command)).station.clients
keeps_obeyed w him command =
    let heard = answered w him in
    keeps_then w.station.clients heard.station.clients (changed w (Obey him command)).station.clients (keeps_state w.station.clients him HasHisAnswer)
    (by_command command) where
      by_command : (command : Command) → Keeps (answered w him).station.clients (changed w (Obey him command)).station.clients
      by_command (MoveClients mount destination) = same_clients (answered w him).station.clients
      by_command (KillClient mount listener) = same_clients (answered w him).station.clients
      by_command (KillSource mount) = keeps_killed (answered w him) (session_of w.station.live mount)
      by_command (SetTitle mount text) = same_clients (answered w him).station.clients
      by_command (SetFallback mount fallback) = same_clients (answered w him).station.clients
      by_command (AddUser mount user password) = same_clients (answered w him).station.clients
      by_command (DeleteUser mount user) = same_clients (answered w him).station.clients

module _ (w : World) (s : IsSound w) where
  abbrev Stay : World → Type 0
  Stay now = (id : ℕ) (client later : Client) → client_of w.station.clients id ≡ Some client → client_of now.station.clients id ≡ Some later
      → (later.peer ≡ client.peer) × (later.arrived ≡ client.arrived)

  stays_so : (now : World) → Keeps w.station.clients now.station.clients → Stay now
  stays_so now keeps id client later before after =
      let was = keeps id later after in
      let both : Some was.client ≡ Some client = sym was.there ∙ before in
      let one : was.client ≡ client = cc in
      (was.peer ∙ ap (λ (x : Client). x.peer) one, was.arrived ∙ ap (λ (x : Client). x.arrived) one)

  -- a number that is given to a new client was nobody's
  not_new : (id : ℕ) (client : Client) → client_of w.station.clients id ≡ Some client → (w.station.last_id + 1 == id) ≡ true → ⊥
  not_new id client there e = by_number (w.station.last_id + 1) id (λ same. taken same) (λ apart. cc) where
    taken : w.station.last_id + 1 ≡ id → ⊥
    taken same =
        let unknown : standing_of w id ≡ Unknown = s.numbered id (omega (arith, same)) in
        let none : client_of w.station.clients id ≡ None = no_client_there w id unknown in
        cc

  stays_admitted : (peer : Peer) → Stay (changed w (Admit (w.station.last_id + 1) peer))
  stays_admitted peer id client later before after =
      by_number (w.station.last_id + 1) id
      (λ same. absurd (not_new id client before (grind (arith, nat_tests))))
      (λ apart.
      let new : Client = record { id = w.station.last_id + 1; peer = peer; arrived = w.station.time; state = IsNew } in
      let both : Some client ≡ Some later = sym before ∙ sym (beside_new w.station.clients new id apart) ∙ after in
      let one : client ≡ later = cc in
      (ap (λ (x : Client). x.peer) (sym one), ap (λ (x : Client). x.arrived) (sym one)))

  stay_by : (event : Event) (o : Outcome) → Way w event o → Stay (changed w o.change)
  stay_by event o (IsAdmitted peer allowed) = stays_admitted peer
  stay_by event o (Misplaced _) = stays_so w (same_clients w.station.clients)
  stay_by event o (IsFinished _ him by its known) = stays_so w (same_clients w.station.clients)
  stay_by event o (IsDenied _ by v nobody) = stays_so w (same_clients w.station.clients)
  stay_by event o (IsRefused _ him by v its undecided) = stays_so (changed w o.change) (keeps_state w.station.clients him HasHisAnswer)
  stay_by event o (Begins asked undecided none allowed) =
      let up = session_begun w asked.id asked.mount (shown_for w.station asked.mount asked.shown) in
      stays_so (changed w o.change) (subst (λ (h : StationState). Keeps w.station.clients h.clients) (sym (station_called up asked.mount))
      (keeps_state w.station.clients asked.id (IsSource asked.mount)))
  stay_by event o (ComesUp mount shown none allowed) =
      let up = session_raised w (w.station.last_id + 1) mount (shown_for w.station mount shown) in
      stays_so (changed w o.change) (subst (λ (h : StationState). Keeps w.station.clients h.clients) (sym (station_called up mount)) (same_clients w.station.clients))
  stay_by event o (Receives him mount block feeding) = stays_so (changed w o.change) (same_clients w.station.clients)
  stay_by event o (SetsTitle him mount text feeding) = stays_so (changed w o.change) (same_clients w.station.clients)
  stay_by event o (TakesSeat asked peer session undecided lands live allowed) = stays_so (changed w o.change) (keeps_state w.station.clients asked.id Listens)
  stay_by event o (HandsOut him room seat session sits has live) = stays_so (changed w o.change) (same_clients w.station.clients)
  stay_by event o (Ends him mount feeding no_relay) = stays_so (changed w o.change) (keeps_state w.station.clients him HasHisAnswer)
  stay_by event o (EndsAndLeaves _ him mount closes feeding) = stays_so (changed w o.change) (keeps_forgotten w.station.clients him)
  stay_by event o (Leaves him no_relay other) = stays_so (changed w o.change) (keeps_forgotten w.station.clients him)
  stay_by event o (GoesDown him rule relay told) = stays_so (changed w o.change) (keeps_forgotten w.station.clients him)
  stay_by event o (Shows _ asker peer text its undecided what) = stays_so (changed w o.change) (keeps_state w.station.clients asker HasHisAnswer)
  stay_by event o (Obeys _ command c) = stays_so (changed w o.change) (keeps_obeyed w c.asked.id command)
  stay_by event o (HasPassed ms e) = stays_so w (same_clients w.station.clients)
  stay_by event o (Ticks ms e) = stays_so (ticked w ms) (keeps_ticked w ms)

  pub arrivals_stay : (event : Event) → ArrivalsStay w event
  unfolding world_after
  arrivals_stay event = stay_by event (outcome w event) (way_of w event)
