-- after a clock event nobody is there whose time is over
use Rattle.std.proofs.Common.{◌≡◌, Bool, true, false, ℕ, Option, Some, None, List, [], ◌∷◌, refl, ap}
use Rattle.std.proofs.Common.{sym, ◌∙◌}
use Rattle.radio_laws.proofs.Words.{if◌then◌else◌, fold, not, option_map, TimeOver, HeaderTimeout, found_has, kept_seat, before_silence, session_silenced, silent_in, ticked, Client, client_of, with_client_state}
use Rattle.radio_laws.proofs.Words.{IsInTime, Session, is_of, session_of, AreApart, IsSound, has_sat_out, is_silent, asks_too_late, timed_out, World, kept_apart, Seat, seat_of, moved_into, Fate, GoesOn, IsEnded}
use Rattle.radio_laws.proofs.Words.{HasStopped, HasEnded, Nobody, ClockCause, ClockCarries, clients_after, fates_silence, sound_sat_out}
use Rattle.radio_parts_station.specs.declared.clients.ClientState.TheVariants.{Ended}
use Rattle.radio_parts_mount.proofs.SilentSessions.{no_pass}
use Rattle.radio_core.proofs.Sessions.SilentLemmas.{silent_then}
use Rattle.radio_core.proofs.Clients.Fates.{IsMoved}

module _ (seconds ms : ℕ) where
  -- nobody asks too late by the same measure
  in_time_at : (client : Client) (b : Bool) → asks_too_late seconds ms client ≡ b
      → asks_too_late seconds ms (with_client_state (if b then Ended HeaderTimeout else client.state) client) ≡ false
  in_time_at client true e = refl
  in_time_at client false e = e

  in_time_in : (found : Option Client) (client : Client) → option_map (timed_out seconds ms) found ≡ Some client → asks_too_late seconds ms client ≡ false
  in_time_in None client e = cc
  in_time_in (Some old) client e =
      let one : timed_out seconds ms old ≡ client = cc in
      ap (λ (x : Client). asks_too_late seconds ms x) (sym one) ∙ in_time_at old (asks_too_late seconds ms old) refl

silence_time : (sessions : List Session) (w : World) → (fold session_silenced w sessions).station.time ≡ w.station.time
silence_time [] w = refl
silence_time (session ∷ sessions) w = silence_time sessions (session_silenced w session)

-- when all silent sessions have ended, none is silent
none_silent : (sessions : List Session) (w : World) → AreApart w.station.live → silent_in w ≡ sessions → silent_in (fold session_silenced w sessions) ≡ []
none_silent [] w apart are = are
none_silent (session ∷ sessions) w apart are =
    none_silent sessions (session_silenced w session) (kept_apart (λ x. not (is_of session.mount x)) w.station.live apart)
    (silent_then w session apart sessions are)

module _ (w : World) (s : IsSound w) (ms : ℕ) where
  pub in_time : IsInTime (ticked w ms) ms
  in_time = record {
    is_now = silence_time (silent_in (before_silence w ms)) (before_silence w ms);
    seats = λ id seat e.
        ap (λ settings. has_sat_out settings ms seat) (fates_silence w s ms).settings ∙ still_sits id seat e ((fates_silence w s ms).fate id);
    clients = λ id client e. clients id client e;
    sources = λ mount session e. sources mount session e;
  } where
    still_sits : (id : ℕ) (seat : Seat) → seat_of (ticked w ms).seats id ≡ Some seat
        → Fate (ClockCause w s ms) (ClockCarries w s ms) Nobody HasEnded (before_silence w ms) (ticked w ms) id → has_sat_out w.station.settings ms seat ≡ false
    still_sits id seat e (GoesOn same seats feeds sits) = kept_seat (has_sat_out w.station.settings ms) TimeOver w.seats id seat (sym seats ∙ e)
    still_sits id seat e (IsEnded rule cause active ended none over) = cc
    still_sits id seat e (HasStopped mount why feeding done none over) = cc
    still_sits id seat e (IsMoved old session carries left had has same live opens) =
        let both : Some (moved_into session old) ≡ Some seat = sym has ∙ e in
        let one : moved_into session old ≡ seat = cc in
        ap (has_sat_out w.station.settings ms) (sym one) ∙ kept_seat (has_sat_out w.station.settings ms) TimeOver w.seats id old had

    clients : (id : ℕ) (client : Client) → client_of (ticked w ms).station.clients id ≡ Some client
        → asks_too_late (ticked w ms).station.settings.limits.header_timeout ms client ≡ false
    clients id client e = by_test (asks_too_late (ticked w ms).station.settings.limits.header_timeout ms client) refl where
      by_test : (b : Bool) → asks_too_late (ticked w ms).station.settings.limits.header_timeout ms client ≡ b
          → asks_too_late (ticked w ms).station.settings.limits.header_timeout ms client ≡ false
      by_test false h = h
      by_test true h =
          let before = (fates_silence w s ms).late id client (ticked w ms).station.settings.limits.header_timeout ms e h in
          let found : option_map (timed_out w.station.settings.limits.header_timeout ms) (client_of w.station.clients id) ≡ Some client =
          sym (clients_after w.station.settings.limits.header_timeout ms w.station.clients id) ∙ before in
          ap (λ settings. asks_too_late settings.limits.header_timeout ms client) (fates_silence w s ms).settings
          ∙ in_time_in w.station.settings.limits.header_timeout ms (client_of w.station.clients id) client found

    sources : (mount : List ℕ) (session : Session) → session_of (ticked w ms).station.live mount ≡ Some session
        → is_silent (ticked w ms).station.settings.limits.source_timeout ms session ≡ false
    sources mount session e =
        let later = ticked w ms in
        let none = none_silent (silent_in (before_silence w ms)) (before_silence w ms) (sound_sat_out w s ms).apart refl in
        let all = no_pass (is_silent later.station.settings.limits.source_timeout later.station.time) later.station.live none in
        let not_silent = found_has (is_of mount) (λ (x : Session). is_silent later.station.settings.limits.source_timeout later.station.time x ≡ false)
        later.station.live session all e in
        ap (λ (moment : ℕ). is_silent later.station.settings.limits.source_timeout moment session) (sym (silence_time (silent_in (before_silence w ms)) (before_silence w ms)))
        ∙ not_silent
