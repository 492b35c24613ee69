-- what an event does to the session of one mount; no event changes the settings
use Rattle.std.proofs.Common.{◌≡◌, ◌⊎◌, inl, inr, ℕ, ◌+◌, ◌*◌, ◌-◌, ◌≤◌, Option, Some, None, List, refl, ap, sym, subst, ◌∙◌}
use Rattle.radio_core.proofs.Words.{unwrap_or, bytes_eq-Decides, Rule, options_for, by_name, listener_of, Event, Source, Push, SourceEnd, Title, Leave, RelayUp, RelayDown, Clock, Shown, Client, Closes, OfClient, OfRelay}
use Rattle.radio_core.proofs.Words.{relay_of, Receive, Obey, Outcome, Undecided, Feeds, Sits, StationState, answered, changed, called_home, session_ended, session_killed, ticked, on_air, on_air_there, on_air_beside}
use Rattle.radio_core.proofs.Words.{taken_in_there, taken_in_beside, begun, raised, TakesTo, Cause, SessionIsOver, IsFarBehind, HasSatOut, HasAskedNothing, HasSentNothing, IsKilled, HisSessionIsKilled, IsNotAccepted}
use Rattle.radio_core.proofs.Words.{Session, session_of, opened, with_session, without_session, Command, MoveClients, KillClient, KillSource, SetFallback, AddUser, DeleteUser, IsCommanded, IsSound, shown_for, outcome}
use Rattle.radio_core.proofs.Words.{world_after, Way, Misplaced, IsFinished, IsDenied, IsRefused, IsAdmitted, Begins, ComesUp, Receives, SetsTitle, TakesSeat, HandsOut, Ends, EndsAndLeaves, Leaves, GoesDown, Obeys}
use Rattle.radio_core.proofs.Words.{Shows, HasPassed, Ticks, World, standing_of, standing_of_found, world, station_called, found_named, is_new_session, beside_begun, is_over, beside_ended, way_of, with_session_at}
use Rattle.radio_parts_station.specs.declared.clients.ClientState.TheVariants.{Undecided as IsNew}
use Rattle.radio_parts_changes.specs.declared.change.Change.TheVariants.{SetTitle}
use Rattle.radio_core.specs.SessionSteps.{IsShownAs, OfTheSettings, OfTheSource, HasBegun, SessionStep, Stays, Begins as ItBegins, BeginsForRelay, Grows, IsTitled}
use Rattle.radio_core.specs.SessionSteps.{Ends as ItEnds, IsRetitled, IsKilled as ItIsKilled, SessionsStep, KeepsSettings}
use Rattle.radio_events.specs.declared.command.Command.TheVariants.{SetTitle as SetTitleOf}
use Rattle.radio_core.proofs.Clients.Fates.{Fate, GoesOn, IsEnded, HasStopped, IsMoved, HasEnded, Nobody}
use Rattle.radio_core.proofs.Kept.KeptSeats.{settings_stay}
use Rattle.radio_core.proofs.Clients.Obeyed.{title_live as command_finds}
use Rattle.radio_core.proofs.Sessions.TickLemmas.{asking_at, ticked_fates}
use Rattle.radio_parts_station.proofs.TimeoutLemmas.{tests_are_in_numbers}

is_shown : (given : Option (List ℕ)) (own : List ℕ) → IsShownAs given own (unwrap_or given own)
is_shown None own = OfTheSource refl
is_shown (Some text) own = OfTheSettings text refl

module _ (w : World) (s : IsSound w) (mount : List ℕ) where
  abbrev mine : Option Session
  mine = session_of w.station.live mount

  turned : (event : Event) {before a later b : Option Session} → before ≡ a → later ≡ b → SessionStep w event mount before later → SessionStep w event mount a b
  turned event {before} {a} {later} {b} ea eb step =
      subst (λ (o : Option Session). SessionStep w event mount o b) ea (subst (λ (o : Option Session). SessionStep w event mount before o) eb step)

  stays : (event : Event) (later : Option Session) → later ≡ mine → SessionStep w event mount mine later
  stays event later same = turned event refl (sym same) (Stays mine)

  -- the session of a source, or relay, that comes up on the mount `there`; those who are called home change no session
  module _ (event : Event) (there : List ℕ) (number : ℕ) (shown : Shown) (station : StationState)
      (live : station.live ≡ with_session w.station.live (opened there number (shown_for w.station there shown) w.station.time))
      (none : session_of w.station.live there ≡ None)
      (it_begins : (session : Session) → there ≡ mount → HasBegun w mount number shown session → SessionStep w event mount None (Some session)) where
    abbrev fresh : Session
    fresh = opened there number (shown_for w.station there shown) w.station.time

    has_begun : HasBegun w there number shown fresh
    has_begun = record {
      its_mount = refl;
      its_source = refl;
      has_no_data = refl;
      has_no_blocks = refl;
      has_no_title = refl;
      from_now = refl;
      shows_type = refl;
      shows_name = is_shown (options_for w.station.settings there).stream.stream_name shown.name;
      shows_genre = is_shown (options_for w.station.settings there).stream.genre shown.genre;
      shows_about = record {
        description = is_shown (options_for w.station.settings there).stream.about.description shown.about.description;
        url = is_shown (options_for w.station.settings there).stream.about.url shown.about.url;
        bitrate = is_shown (options_for w.station.settings there).stream.about.bitrate shown.about.bitrate;
        audio_info = refl;
      };
    }

    begins : SessionStep w event mount mine (session_of (with_session w.station.live fresh) mount)
    begins =
        by_name there mount
        (λ same. turned event (sym none ∙ ap (session_of w.station.live) same)
        (sym (is_new_session w.station.live fresh mount ((bytes_eq-Decides there mount).1 same)))
        (it_begins fresh same (subst (λ (m : List ℕ). HasBegun w m number shown fresh) same has_begun)))
        (λ apart. stays event (session_of (with_session w.station.live fresh) mount) (beside_begun w.station.live fresh mount apart))

    comes_up : SessionStep w event mount mine (session_of (called_home (world station (with_session_at w.seats there number)) there).station.live mount)
    comes_up =
        turned event refl
        (ap (λ (sessions : List Session). session_of sessions mount) (sym live)
        ∙ ap (λ (h : StationState). session_of h.live mount) (sym (station_called (world station (with_session_at w.seats there number)) there))) begins

  grows : (him : ℕ) (fed block : List ℕ) → standing_of w him ≡ Feeds fed
      → SessionStep w (Push him block) mount mine (session_of (changed w (Receive fed block)).station.live mount)
  grows him fed block feeding =
      let ours = s.feeds him fed feeding in
      by_name fed mount
      (λ same. turned (Push him block) (sym ours.1 ∙ ap (session_of w.station.live) same)
      (sym (taken_in_there w fed block ours.0 ours.1) ∙ ap (session_of (changed w (Receive fed block)).station.live) same)
      (Grows ours.0 block (ap (λ (n : ℕ). Push n block) (sym ours.2))))
      (λ apart. stays (Push him block) (session_of (changed w (Receive fed block)).station.live mount)
      (taken_in_beside w fed block mount apart))

  is_told : (him : ℕ) (fed text : List ℕ) → standing_of w him ≡ Feeds fed
      → SessionStep w (Title him text) mount mine (session_of (changed w (SetTitle fed text)).station.live mount)
  is_told him fed text feeding =
      let ours = s.feeds him fed feeding in
      by_name fed mount
      (λ same. turned (Title him text) (sym ours.1 ∙ ap (session_of w.station.live) same)
      (sym (on_air_there w fed text ours.0 ours.1) ∙ ap (session_of (changed w (SetTitle fed text)).station.live) same)
      (IsTitled ours.0 text (ap (λ (n : ℕ). Title n text) (sym ours.2))))
      (λ apart. stays (Title him text) (session_of (changed w (SetTitle fed text)).station.live mount) (on_air_beside w fed text mount apart))

  is_ended : (event : Event) (him : ℕ) (fed : List ℕ) → standing_of w him ≡ Feeds fed
      → (event ≡ SourceEnd him) ⊎ (event ≡ Leave him) ⊎ (event ≡ RelayDown him)
      → SessionStep w event mount mine (session_of (session_ended w fed).station.live mount)
  is_ended event him fed feeding by =
      let ours = s.feeds him fed feeding in
      by_name fed mount
      (λ same. turned event (sym ours.1 ∙ ap (session_of w.station.live) same)
      (sym (is_over w.station.live fed) ∙ ap (session_of (session_ended w fed).station.live) same)
      (ItEnds ours.0 (his ours.0 ours.2 by)))
      (λ apart. stays event (session_of (session_ended w fed).station.live mount) (beside_ended w.station.live fed mount apart)) where
        his : (session : Session) → session.number ≡ him → (event ≡ SourceEnd him) ⊎ (event ≡ Leave him) ⊎ (event ≡ RelayDown him)
            → (event ≡ SourceEnd session.number) ⊎ (event ≡ Leave session.number) ⊎ (event ≡ RelayDown session.number)
            ⊎ ((ms : ℕ) × (event ≡ Clock ms) × (1000 * w.station.settings.limits.source_timeout ≤ ms - session.last_block))
        his session number (inl e) = inl (e ∙ ap (λ (n : ℕ). SourceEnd n) (sym number))
        his session number (inr (inl e)) = inr (inl (e ∙ ap (λ (n : ℕ). Leave n) (sym number)))
        his session number (inr (inr e)) = inr (inr (inl (e ∙ ap (λ (n : ℕ). RelayDown n) (sym number))))

  -- whose connection is closed
  is_closed : (event : Event) (him : ℕ) → Closes w him event → (event ≡ SourceEnd him) ⊎ (event ≡ Leave him) ⊎ (event ≡ RelayDown him)
  is_closed event him (OfClient no_relay) = inr (inl refl)
  is_closed event him (OfRelay relay) = inr (inr refl)

  -- a command sets its title, or ends it
  is_retitled : (event : Event) (named text : List ℕ) (c : IsCommanded w event (SetTitleOf named text)) (session : Session)
      → session_of w.station.live named ≡ Some session
      → SessionStep w event mount mine (session_of (changed w (Obey c.asked.id (SetTitleOf named text))).station.live mount)
  is_retitled event named text c session found =
      by_name named mount
      (λ same. turned event (sym found ∙ ap (session_of w.station.live) same)
      (sym (on_air_there w named text session found) ∙ ap (session_of (on_air w named text).station.live) same)
      (IsRetitled session text (subst (λ (m : List ℕ). IsCommanded w event (SetTitleOf m text)) same c)))
      (λ apart. stays event (session_of (on_air w named text).station.live mount) (on_air_beside w named text mount apart))

  is_killed : (event : Event) (named : List ℕ) (c : IsCommanded w event (KillSource named)) (found : Option Session) → session_of w.station.live named ≡ found
      → SessionStep w event mount mine (session_of (session_killed (answered w c.asked.id) found).station.live mount)
  is_killed event named c None none = Stays mine
  is_killed event named c (Some session) found =
      let over = session_of (without_session w.station.live session.mount) in
      let is = found_named w.station.live named session found in
      by_name session.mount mount
      (λ same. turned event (sym found ∙ ap (session_of w.station.live) (sym is ∙ same)) (sym (is_over w.station.live session.mount) ∙ ap over same)
      (ItIsKilled session (subst (λ (m : List ℕ). IsCommanded w event (KillSource m)) (sym is ∙ same) c)))
      (λ apart. stays event (over mount) (beside_ended w.station.live session.mount mount apart))

  title_live : (event : Event) (named text : List ℕ) (c : IsCommanded w event (SetTitleOf named text)) (found : Option Session) → session_of w.station.live named ≡ found
      → SessionStep w event mount mine (session_of (changed w (Obey c.asked.id (SetTitleOf named text))).station.live mount)
  title_live event named text c None none = let there = command_finds w s event named text c in let found : session_of w.station.live named ≡ Some there.0 = there.1 in cc
  title_live event named text c (Some session) found = is_retitled event named text c session found

  pub obeys : (event : Event) (command : Command) (c : IsCommanded w event command)
      → SessionStep w event mount mine (session_of (changed w (Obey c.asked.id command)).station.live mount)
  obeys event (MoveClients named destination) c = Stays mine
  obeys event (KillClient named listener) c = Stays mine
  obeys event (KillSource named) c = is_killed event named c (session_of w.station.live named) refl
  obeys event (SetTitleOf named text) c = title_live event named text c (session_of w.station.live named) refl
  obeys event (SetFallback named fallback) c = Stays mine
  obeys event (AddUser named user password) c = Stays mine
  obeys event (DeleteUser named user) c = Stays mine

  -- at a moment: it stays, or its source was silent
  module _ (ms : ℕ) where
    abbrev later : Option Session
    later = session_of (ticked w ms).station.live mount

    is_silenced : (session : Session) → mine ≡ Some session → {rule : Rule} → Cause w (ticked w ms) (Clock ms) session.number rule → later ≡ None
        → SessionStep w (Clock ms) mount mine later
    is_silenced session here (SessionIsOver _ seat has leaves) gone =
        let sat : standing_of w session.number ≡ Sits = s.sitting session.number seat has in
        let feeds : standing_of w session.number ≡ Feeds mount = s.fed mount session here in
        cc
    is_silenced session here (IsFarBehind him block seat e feeds has behind) gone = cc
    is_silenced session here (IsKilled seat has named) gone = let e = named.is_event in cc
    is_silenced session here (HisSessionIsKilled other feeds live named) gone = let e = named.is_event in cc
    is_silenced session here (IsNotAccepted seat has changes out) gone =
        let sat : standing_of w session.number ≡ Sits = s.sitting session.number seat has in
        let feeds : standing_of w session.number ≡ Feeds mount = s.fed mount session here in
        cc
    is_silenced session here (HasSatOut moment seat e has out) gone =
        let sat : standing_of w session.number ≡ Sits = s.sitting session.number seat has in
        let feeds : standing_of w session.number ≡ Feeds mount = s.fed mount session here in
        cc
    is_silenced session here (HasAskedNothing moment client e found late) gone =
        let feeds : standing_of w session.number ≡ Feeds mount = s.fed mount session here in
        let new : client.state ≡ IsNew = asking_at w.station.settings.limits.header_timeout moment client.arrived client.state late in
        let undecided : standing_of w session.number ≡ Undecided client.peer =
        ap (standing_of_found (relay_of w.station.relays session.number) (listener_of w.seats session.number)) found
        ∙ is_new (relay_of w.station.relays session.number) (listener_of w.seats session.number) client new in
        cc where
          is_new : (relay : _) (listener : _) (x : Client) → x.state ≡ IsNew → standing_of_found relay listener (Some x) ≡ Undecided x.peer
          is_new relay listener x e = rw e refl
    is_silenced session here (HasSentNothing moment silent e feeds live is) gone =
        let both : Feeds mount ≡ Feeds silent.mount = sym (s.fed mount session here) ∙ feeds in
        let name : mount ≡ silent.mount = cc in
        let same : Some session ≡ Some silent = sym here ∙ ap (session_of w.station.live) name ∙ live in
        let one : session ≡ silent = cc in
        turned (Clock ms) (sym here) (sym gone) (ItEnds session (inr (inr (inr (
          moment,
          e,
          subst (λ (x : Session). 1000 * w.station.settings.limits.source_timeout ≤ moment - x.last_block) (sym one)
              ((tests_are_in_numbers.sends_nothing w.station.settings.limits.source_timeout moment silent).0 is),
        )))))

    at_the_moment : SessionStep w (Clock ms) mount mine later
    at_the_moment = by_found mine refl where
      none_there : (found : Option Session) → later ≡ found → mine ≡ None → later ≡ None
      none_there None e none = e
      none_there (Some session) e none = let was : mine ≡ Some session = (ticked_fates w s ms).live mount session e in cc

      by_fate : (session : Session) → mine ≡ Some session
          → Fate (Cause w (ticked w ms) (Clock ms)) (λ id session. TakesTo w (Clock ms) id session.mount) Nobody HasEnded w (ticked w ms) session.number
          → SessionStep w (Clock ms) mount mine later
      by_fate session here (GoesOn same seat feeds sits) = stays (Clock ms) later (feeds mount (s.fed mount session here))
      by_fate session here (IsEnded rule cause active ended none over) = is_silenced session here cause (over mount (s.fed mount session here))
      by_fate session here (HasStopped other why feeding done none over) = absurd why
      by_fate session here (IsMoved old to carries left had has same live opens) =
          let sat : standing_of w session.number ≡ Sits = s.sitting session.number old had in
          let feeds : standing_of w session.number ≡ Feeds mount = s.fed mount session here in
          cc

      by_found : (found : Option Session) → mine ≡ found → SessionStep w (Clock ms) mount mine later
      by_found None e = stays (Clock ms) later (none_there later refl e ∙ sym e)
      by_found (Some session) e = by_fate session e ((ticked_fates w s ms).fate session.number)

  step_by : (event : Event) (o : Outcome) → Way w event o → SessionStep w event mount mine (session_of (changed w o.change).station.live mount)
  step_by event o (Misplaced _) = Stays mine
  step_by event o (IsFinished _ him by its known) = Stays mine
  step_by event o (IsDenied _ by v nobody) = Stays mine
  step_by event o (IsRefused _ him by v its undecided) = Stays mine
  step_by event o (IsAdmitted peer allowed) = Stays mine
  step_by event o (Begins asked undecided none allowed) =
      comes_up (Source asked) asked.mount asked.id asked.shown (begun w.station asked.id asked.mount (shown_for w.station asked.mount asked.shown)) refl none
      (λ session same has. ItBegins asked session refl same has)
  step_by event o (ComesUp there shown none allowed) =
      comes_up (RelayUp there shown) there (w.station.last_id + 1) shown (raised w.station (w.station.last_id + 1) there (shown_for w.station there shown)) refl none
      (λ session same has. BeginsForRelay shown session (ap (λ (m : List ℕ). RelayUp m shown) same) has)
  step_by event o (Receives him fed block feeding) = grows him fed block feeding
  step_by event o (SetsTitle him fed text feeding) = is_told him fed text feeding
  step_by event o (TakesSeat asked peer session undecided lands live allowed) = Stays mine
  step_by event o (HandsOut him room seat session sits has live) = Stays mine
  step_by event o (Ends him fed feeding no_relay) = is_ended event him fed feeding (inl refl)
  step_by event o (EndsAndLeaves _ him fed closes feeding) = is_ended event him fed feeding (is_closed event him closes)
  step_by event o (Leaves him no_relay other) = Stays mine
  step_by event o (GoesDown him rule relay told) = Stays mine
  step_by event o (Shows _ asker peer text its undecided what) = Stays mine
  step_by event o (Obeys _ command c) = obeys event command c
  step_by event o (HasPassed ms e) = Stays mine
  step_by event o (Ticks ms e) = at_the_moment ms

pub sessions_step : (w : World) → IsSound w → (event : Event) → SessionsStep w event
unfolding world_after
sessions_step w s event mount = step_by w s mount event (outcome w event) (way_of w event)

pub keeps_settings : (w : World) → IsSound w → (event : Event) → KeepsSettings w event
unfolding world_after
keeps_settings w s event = settings_stay w s.by_number event
