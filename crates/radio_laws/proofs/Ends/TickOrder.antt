-- which clients end at a moment, and by which rule
use Rattle.std.proofs.Common.{◌≡◌, ◌⊎◌, ◌==◌, inl, inr, true, false, Bool, ℕ, Option, Some, None, is_some, List, [], ◌∷◌, refl, ap, sym, subst, ◌∙◌}
use Rattle.radio_laws.proofs.Words.{if◌then◌else◌, fold, option_map, option_map_or, bytes_eq, Rule, HeaderTimeout, TimeOver, SourceSilent, NotLive, Settings, options_for, Fallback, set_for, by_number, by_name, Listener}
use Rattle.radio_laws.proofs.Words.{Seat, Seating, LosesSeat, have_ended, same_or_loses, listener_seated, listener_of, seat_held, seat_in, seat_of, ended_if, finished_if, without_listener, AreByNumber, GoesTo, IsOut}
use Rattle.radio_laws.proofs.Words.{WalkFinding, Landing, Lands, Stops, found_at, stop_of, stop_in, landing, walks_on, turn_in, at_his_turn, Faring, HasStayed, HasGone, HasLost, fares, sits_as_before}
use Rattle.radio_laws.proofs.Words.{stopped_where_it_begins, Clock, Standing, Undecided, Feeds, Sits, session_over, session_ended, before_silence, session_silenced, silent_in, ticked, Client, client_of}
use Rattle.radio_laws.proofs.Words.{with_client_state, Relay, relay_of, sight_of, fallback_of, Cause, SessionIsOver, IsFarBehind, HasSatOut, HasAskedNothing, HasSentNothing, HisSessionIsKilled, IsNotAccepted, TakesTo}
use Rattle.radio_laws.proofs.Words.{his_turn, Session, session_of, IsSound, has_sat_out, is_silent, asks_too_late, timed_out, World, standing_of, standing_of_found, Fate, GoesOn, IsEnded, HasStopped, HasEnded, Nobody}
use Rattle.radio_laws.proofs.Words.{IsActive, sound_fates, lost_in, is_over, ClockCause, ClockCarries, ClockFates, asking_at, clients_after, timed, sound_timed, IsOnTheWay, goes_on, live_there, silenced_fates, turned}
use Rattle.radio_laws.proofs.Words.{ticked_fates, heard_cases, is_on_demand}
use Rattle.radio_seats_rows.specs.declared.seat.Seating.TheVariants.{Sits as HasSeat, Finished as HasLostIt}
use Rattle.radio_fallback.specs.declared.moves.Move.TheVariants.{Ended as SessionEnds}
use Rattle.radio_fallback.specs.declared.moves.MoveEffect.TheVariants.{Stays as TurnStays}
use Rattle.radio_parts_station.specs.declared.clients.ClientState.TheVariants.{Undecided as IsNew, Ended}
use Rattle.radio_parts_station.specs.declared.standing.Standing.TheVariants.{Finished}
use Rattle.radio_core.specs.Finishes.{IsKilled}
use Rattle.radio_core.proofs.Clients.Fates.{IsMoved}
use Rattle.radio_core.proofs.Sessions.TickLemmas.{at_first}
use Rattle.radio_core.proofs.Seats.HeardApart.{sits_past_zero}
use Rattle.radio_laws.proofs.Seats.HeardLaws.{nothing_heard}
use Rattle.radio_laws.proofs.Ends.StationSteps.{silence_keeps}
use Rattle.radio_laws.proofs.Ends.InTime.{in_time}
use Rattle.radio_laws.proofs.Seats.StayingOn.{walks_from}

-- a finished client stays finished
module _ (w : World) (s : IsSound w) (ms : ℕ) (from later : World) (f : ClockFates w s ms from later) (id : ℕ) (rule : Rule)
    (e : standing_of from id ≡ Finished rule) where
  pub finished_on : standing_of later id ≡ Finished rule
  finished_on = by_fate (f.fate id) where
    by_fate : Fate (Cause w (ticked w ms) (Clock ms)) (λ him session. TakesTo w (Clock ms) him session.mount) Nobody HasEnded from later id
        → standing_of later id ≡ Finished rule
    by_fate (GoesOn same seat feeds sits) = same ∙ e
    by_fate (IsEnded other cause active ended none over) = absurd (subst (λ (x : Standing). IsActive x) e active)
    by_fate (HasStopped mount why feeding done none over) = absurd why
    by_fate (IsMoved old session carries left had has same live opens) = same ∙ e

-- a client that has asked for nothing is undecided
new_in : (relay : Option Relay) (listener : Option Listener) (found : Option Client) (client : Client) → found ≡ Some client → client.state ≡ IsNew
    → standing_of_found relay listener found ≡ Undecided client.peer
new_in relay listener found client there new = ap (standing_of_found relay listener) there ∙ by_state client new where
  by_state : (x : Client) → x.state ≡ IsNew → standing_of_found relay listener (Some x) ≡ Undecided x.peer
  by_state x e = rw e refl

module _ (w : World) (s : IsSound w) (ms : ℕ) where
  pub too_late : (id : ℕ) (client : Client) → client_of w.station.clients id ≡ Some client → asks_too_late w.station.settings.limits.header_timeout ms client ≡ true
      → standing_of (timed w s ms) id ≡ Finished HeaderTimeout
  too_late id client found late =
      let seconds = w.station.settings.limits.header_timeout in
      ap (standing_of_found (relay_of w.station.relays id) (listener_of w.seats id)) (clients_after seconds ms w.station.clients id ∙ ap (option_map (timed_out seconds ms)) found)
      ∙ ends (asks_too_late seconds ms client) late where
        ends : (b : Bool) → b ≡ true
            → standing_of_found (relay_of w.station.relays id) (listener_of w.seats id) (Some (with_client_state (if b then Ended HeaderTimeout else client.state) client)) ≡ Finished HeaderTimeout
        ends b e = rw e refl

  -- a seat that ends when durations are looked at ends by them
  pub time_over : (id : ℕ) (seat : Seat) → seat_of w.seats id ≡ Some seat → has_sat_out w.station.settings ms seat ≡ true
      → standing_of (before_silence w ms) id ≡ Finished TimeOver
  time_over id seat has out =
      ap (λ l. standing_of_found relay l client) (have_ended test TimeOver w.seats id ∙ ap (option_map (finished_if test TimeOver)) listener.1)
      ∙ by_seating listener.0.seating listener.2
    where
      test : Seat → Bool
      test = has_sat_out w.station.settings ms

      client : Option Client
      client = client_of (timed w s ms).station.clients id

      relay : Option Relay
      relay = relay_of w.station.relays id

      listener : (him : Listener) × (listener_of w.seats id ≡ Some him) × (seat_held him.seating ≡ Some seat)
      listener = listener_seated w.seats id seat has

      sits : standing_of (timed w s ms) id ≡ Sits
      sits = (sound_timed w s ms).sitting id seat has

      ends : (b : Bool) (him : ℕ) (own : Seat) → b ≡ true
          → standing_of_found (relay_of w.station.relays id) (Some (record { id = him; seating = (if b then HasLostIt TimeOver own.mount else HasSeat own) })) client
          ≡ Finished TimeOver
      ends true him own e = lost_in (relay_of w.station.relays id) (listener_of w.seats id) him TimeOver own.mount client sits
      ends false him own e = cc

      by_seating : (seating : Seating) → seat_held seating ≡ Some seat
          → standing_of_found (relay_of w.station.relays id) (Some (record { id = listener.0.id; seating = ended_if test TimeOver seating })) client ≡ Finished TimeOver
      by_seating (HasSeat held) e =
          let same : held ≡ seat = cc in
          ends (test held) listener.0.id held (ap test same ∙ out)
      by_seating (HasLostIt rule mount) e = cc

  -- no session is left that was silent
  not_silent : (mount : List ℕ) (session : Session) → session_of (ticked w ms).station.live mount ≡ Some session
      → is_silent w.station.settings.limits.source_timeout ms session ≡ false
  not_silent mount session e =
      ap (λ settings. is_silent settings.limits.source_timeout ms session) (sym (ticked_fates w s ms).settings) ∙ (in_time w s ms).sources mount session e

  pub silent_source : (mount : List ℕ) (session : Session) → session_of w.station.live mount ≡ Some session
      → is_silent w.station.settings.limits.source_timeout ms session ≡ true → standing_of (ticked w ms) session.number ≡ Finished SourceSilent
  silent_source mount session live silent = by_fate ((ticked_fates w s ms).fate session.number) where
    feeding : standing_of w session.number ≡ Feeds mount
    feeding = s.fed mount session live

    by_cause : {rule : Rule} → Cause w (ticked w ms) (Clock ms) session.number rule → rule ≡ SourceSilent
    by_cause (SessionIsOver _ seat has leaves) =
        let sat : standing_of w session.number ≡ Sits = s.sitting session.number seat has in
        let feeds : standing_of w session.number ≡ Feeds mount = feeding in cc
    by_cause (IsFarBehind him block seat e feeds has behind) = cc
    by_cause (HasSatOut moment seat e has out) =
        let sat : standing_of w session.number ≡ Sits = s.sitting session.number seat has in
        let feeds : standing_of w session.number ≡ Feeds mount = feeding in cc
    by_cause (IsNotAccepted seat has changes out) =
        let sat : standing_of w session.number ≡ Sits = s.sitting session.number seat has in
        let feeds : standing_of w session.number ≡ Feeds mount = feeding in cc
    by_cause (HasAskedNothing moment client e found late) =
        let new : client.state ≡ IsNew = asking_at w.station.settings.limits.header_timeout moment client.arrived client.state late in
        let undecided : standing_of w session.number ≡ Undecided client.peer =
        new_in (relay_of w.station.relays session.number) (listener_of w.seats session.number) (client_of w.station.clients session.number) client found new in
        let feeds : standing_of w session.number ≡ Feeds mount = feeding in
        cc
    by_cause (HasSentNothing moment other e feeds there is) = refl
    by_cause (IsKilled seat has named) = let e = named.is_event in cc
    by_cause (HisSessionIsKilled other feeds there named) = let e = named.is_event in cc

    by_fate : Fate (Cause w (ticked w ms) (Clock ms)) (λ id session. TakesTo w (Clock ms) id session.mount) Nobody HasEnded w (ticked w ms) session.number
        → standing_of (ticked w ms) session.number ≡ Finished SourceSilent
    by_fate (GoesOn same seat feeds goes) =
        let still : session_of (ticked w ms).station.live mount ≡ Some session = feeds mount feeding ∙ live in
        let not : is_silent w.station.settings.limits.source_timeout ms session ≡ false = not_silent mount session still in
        cc
    by_fate (IsEnded rule cause active ended none over) = ended ∙ ap (λ (r : Rule). Finished r) (by_cause cause)
    by_fate (HasStopped other why feeds done none over) = absurd why
    by_fate (IsMoved old to carries left had has same lives opens) =
        let sat : standing_of w session.number ≡ Sits = s.sitting session.number old had in
        let feeds : standing_of w session.number ≡ Feeds mount = feeding in cc

  module _ (id : ℕ) (seat : Seat) where
    -- a listener at another mount keeps its seat when a session ends
    pub still_there : (during : World) (mount : List ℕ) → AreByNumber during.seats → seat_of during.seats id ≡ Some seat
        → bytes_eq seat.mount mount ≡ false → seat_of (session_ended during mount).seats id ≡ Some seat
    still_there during mount order has away =
        by_fare (fares (sight_of (session_over during mount).station) (SessionEnds mount) during.seats order id) where
          concerns_another : (old : Seat) → seat_of during.seats id ≡ Some old → bytes_eq old.mount mount ≡ true → {A : Type 0} → A
          concerns_another old had concerned =
              let both : Some seat ≡ Some old = sym has ∙ had in
              let one : seat ≡ old = cc in
              let there : bytes_eq seat.mount mount ≡ true = ap (λ (x : Seat). bytes_eq x.mount mount) one ∙ concerned in
              cc

          by_fare : Faring (sight_of (session_over during mount).station) (SessionEnds mount) during.seats id
              → seat_of (session_ended during mount).seats id ≡ Some seat
          by_fare (HasStayed stays turn) = ap seat_in stays ∙ has
          by_fare (HasGone old to turn had concerned fits now) = concerns_another old had concerned
          by_fare (HasLost old rule turn had concerned now) = concerns_another old had concerned

    -- a listener whose time is not over has its seat when the silent sessions begin to end
    pub sits_at_first : seat_of w.seats id ≡ Some seat → has_sat_out w.station.settings ms seat ≡ false → seat_of (before_silence w ms).seats id ≡ Some seat
    sits_at_first has not_out = by_loss (same_or_loses (has_sat_out w.station.settings ms) TimeOver w.seats id) where
      by_loss : (listener_of (before_silence w ms).seats id ≡ listener_of w.seats id)
          ⊎ LosesSeat (has_sat_out w.station.settings ms) TimeOver (listener_of w.seats id) (listener_of (before_silence w ms).seats id)
          → seat_of (before_silence w ms).seats id ≡ Some seat
      by_loss (inl same) = ap seat_in same ∙ has
      by_loss (inr loses) =
          let both : Some loses.seat ≡ Some seat = sym loses.had_a_seat ∙ has in
          let one : loses.seat ≡ seat = cc in
          let out : has_sat_out w.station.settings ms seat ≡ true = ap (has_sat_out w.station.settings ms) (sym one) ∙ loses.holds in
          cc

    -- if the session of its mount is one of those that end, it does not have this seat after them
    pub sits_no_more : (session : Session) → seat_of w.seats id ≡ Some seat → session_of w.station.live seat.mount ≡ Some session
        → is_silent w.station.settings.limits.source_timeout ms session ≡ true → seat_of (ticked w ms).seats id ≡ Some seat → {A : Type 0} → A
    sits_no_more session has live silent still =
        let now = (sound_fates (ClockCause w s ms) (ClockCarries w s ms) Nobody HasEnded w (ticked w ms) s (ticked_fates w s ms)).seated id seat still in
        heard_cases (ticked w ms).station seat.mount now.session now.is_heard
        (λ there.
        let both : Some session ≡ Some now.session = sym live ∙ (ticked_fates w s ms).live seat.mount now.session there in
        let one : session ≡ now.session = cc in
        let not : is_silent w.station.settings.limits.source_timeout ms session ≡ false =
        ap (is_silent w.station.settings.limits.source_timeout ms) one ∙ not_silent seat.mount now.session there in
        cc)
        (λ none nothing.
        let zero : seat.session ≡ 0 = sym now.his_session ∙ sym (ap (λ (x : Session). x.number) nothing) in
        let no : (0 == 0) ≡ false = ap (λ (n : ℕ). n == 0) (sym zero) ∙ sits_past_zero w s id seat session has live in
        cc)

  -- If a listener's mount has no fallback, and no relay feeds it on demand, it sits there until its session ends. Then it is
  -- finished.
  module _ (id : ℕ) (seat : Seat) (no_fallback : fallback_of w.station seat.mount ≡ None) (never : is_on_demand w.station.settings seat.mount ≡ false) where
    -- the seat that it has still, or that it has finished since its mount is not live any more
    abbrev IsStillOrOut : World → Type 0
    IsStillOrOut now = (seat_of now.seats id ≡ Some seat) ⊎ (standing_of now id ≡ Finished NotLive)

    -- a move takes it nowhere
    out_by_turn : (during : World) (mount : List ℕ) → during.station.settings ≡ w.station.settings → during.station.fallbacks ≡ w.station.fallbacks → seat_of during.seats id ≡ Some seat → seat.mount ≡ mount
        → his_turn (session_over during mount) (SessionEnds mount) id ≡ IsOut NotLive
    out_by_turn during mount same set has there =
        let over = session_over during mount in
        let sight = sight_of over.station in
        let then_seats = at_his_turn sight (SessionEnds mount) during.seats id in
        let others = without_listener then_seats id in
        let sits : seat_of then_seats id ≡ Some seat = ap seat_in (sits_as_before sight (SessionEnds mount) during.seats id) ∙ has in
        let none : sight.fallback mount ≡ None =
        ap (λ (settings : Settings). falls_in settings during.station.fallbacks mount) same
        ∙ ap (λ (fallbacks : List Fallback). falls_in w.station.settings fallbacks mount) set
        ∙ ap (fallback_of w.station) (sym there) ∙ no_fallback in
        let waits : is_on_demand over.station.settings mount ≡ false =
        ap (λ (settings : Settings). is_on_demand settings mount) same ∙ ap (is_on_demand w.station.settings) (sym there) ∙ never in
        ap (turn_in sight others (SessionEnds mount)) sits
        ∙ walks_from sight others mount seat there
        ∙ stops (landing sight others seat.pair mount)
        (stopped_where_it_begins sight others mount seat.pair none
        ∙ idle (found_at sight others mount seat.pair) (ap is_some (nothing_heard over.station mount waits (is_over during.station.live mount)))) where
          falls_in : Settings → List Fallback → List ℕ → Option (List ℕ)
          falls_in settings fallbacks m =
              option_map_or (λ (x : Fallback). x.fallback) (set_for fallbacks m) (options_for settings m).listeners.fallback_mount

          idle : (found : WalkFinding) → found.is_live ≡ false → stop_of found ≡ Some NotLive
          idle found e = rw e refl

          stops : (l : Landing) → stop_in l ≡ Some NotLive → walks_on l ≡ IsOut NotLive
          stops (Lands to) e = cc
          stops (Stops rule) e = let same : rule ≡ NotLive = cc in ap (λ (r : Rule). IsOut r) same

    out_by_fare : (during : World) (mount : List ℕ) → IsSound during → during.station.settings ≡ w.station.settings
        → during.station.fallbacks ≡ w.station.fallbacks → seat_of during.seats id ≡ Some seat
        → seat.mount ≡ mount → Faring (sight_of (session_over during mount).station) (SessionEnds mount) during.seats id
        → standing_of (session_ended during mount) id ≡ Finished NotLive
    out_by_fare during mount sound same set has there (HasStayed stays turn) =
        let both : IsOut NotLive ≡ TurnStays = sym (out_by_turn during mount same set has there) ∙ turn seat has in cc
    out_by_fare during mount sound same set has there (HasGone old to turn had concerned fits now) =
        let both : IsOut NotLive ≡ GoesTo to = sym (out_by_turn during mount same set has there) ∙ turn in cc
    out_by_fare during mount sound same set has there (HasLost old rule turn had concerned now) =
        let both : IsOut NotLive ≡ IsOut rule = sym (out_by_turn during mount same set has there) ∙ turn in
        let one : NotLive ≡ rule = cc in
        ap (λ l. standing_of_found (relay_of during.station.relays id) l (client_of during.station.clients id)) now
        ∙ lost_in (relay_of during.station.relays id) (listener_of during.seats id) id rule old.mount (client_of during.station.clients id) (sound.sitting id seat has)
        ∙ ap (λ (r : Rule). Finished r) (sym one)

    -- after a silent session has ended
    after_silence : (session : Session) (sessions : List Session) (during : World) (way : IsOnTheWay w s ms (session ∷ sessions) during)
        → IsStillOrOut during → IsStillOrOut (session_silenced during session)
    after_silence session sessions during way (inr out) =
        inr (finished_on w s ms during (session_silenced during session) (silenced_fates w s ms session sessions during way) id NotLive out)
    after_silence session sessions during way (inl has) =
        let mount = session.mount in
        let fare = fares (sight_of (session_over during mount).station) (SessionEnds mount) during.seats way.sound.by_number id in
        by_name seat.mount mount
        (λ there.
        by_number session.number id
        (λ his. absurd (no_source his))
        (λ other. inr ((turned w s ms session sessions during way).others id other
        ∙ out_by_fare during mount way.sound way.so_far.settings set_then has there fare)))
        (λ away. inl (still_there id seat during mount way.sound.by_number has away)) where
          set_then : during.station.fallbacks ≡ w.station.fallbacks
          set_then = ap (λ (v : World). v.station.fallbacks) way.have_ended ∙ (silence_keeps way.before (before_silence w ms)).0

          no_source : session.number ≡ id → ⊥
          no_source his =
              let feeds : standing_of during session.number ≡ Feeds session.mount =
              way.sound.fed session.mount session (live_there w s ms session sessions during way) in
              let sat : standing_of during session.number ≡ Sits = ap (standing_of during) his ∙ way.sound.sitting id seat has in
              cc

    keeps : (sessions : List Session) (during : World) → IsOnTheWay w s ms sessions during → IsStillOrOut during
        → IsStillOrOut (fold session_silenced during sessions)
    keeps [] during way holds = holds
    keeps (session ∷ sessions) during way holds =
        keeps sessions (session_silenced during session) (goes_on w s ms session sessions during way) (after_silence session sessions during way holds)

    pub left_there : (session : Session) → seat_of w.seats id ≡ Some seat → has_sat_out w.station.settings ms seat ≡ false
        → session_of w.station.live seat.mount ≡ Some session → is_silent w.station.settings.limits.source_timeout ms session ≡ true
        → standing_of (ticked w ms) id ≡ Finished NotLive
    left_there session has not_out live silent =
        by_end (keeps (silent_in (before_silence w ms)) (before_silence w ms) (at_first w s ms) (inl (sits_at_first id seat has not_out))) where
          by_end : IsStillOrOut (ticked w ms) → standing_of (ticked w ms) id ≡ Finished NotLive
          by_end (inr out) = out
          by_end (inl still) = sits_no_more id seat session has live silent still
