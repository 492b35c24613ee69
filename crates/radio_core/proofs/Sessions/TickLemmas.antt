-- what the clock ends
use Rattle.std.proofs.Common.{◌≡◌, Bool, true, false, ℕ, Option, Some, None, List, [], ◌∷◌, ◌++◌, append_assoc, refl, ap}
use Rattle.std.proofs.Common.{sym, subst, ◌∙◌}
use Rattle.radio_core.proofs.Words.{if◌then◌else◌, find, fold, map, option_map, TimeOver, HeaderTimeout, SourceSilent, Peer, find_mapped, found_passes, Listener, Seat, listener_of, seat_of, ClientState, Listens, Ended}
use Rattle.radio_core.proofs.Words.{Clock, Standing, Undecided, Feeds, Sits, Finished, session_over, session_ended, before_silence, silent_in, session_silenced, ticked, timed_out_by, Client, is_client, client_of}
use Rattle.radio_core.proofs.Words.{with_client_state, Relay, relay_of, Cause, SessionIsOver, HasSatOut, HasAskedNothing, HasSentNothing, Brings, BySilence, TakesTo, Rule, Settings, Session, session_of, IsSound}
use Rattle.radio_core.proofs.Words.{has_sat_out, is_silent, asks_nothing, asks_too_late, timed_out, World, standing_of, standing_of_found, found_own, is_over, found_first}
use Rattle.std.proofs.lemmas.List.Sums.{fold-append}
use Rattle.radio_parts_station.specs.declared.clients.ClientState.TheVariants.{Undecided as IsNew, Feeds as IsSource, Answered as HasHisAnswer}
use Rattle.radio_fallback.specs.declared.moves.Move.TheVariants.{Ended as SessionEnds}
use Rattle.radio_core.proofs.Clients.Fates.{IsActive, Fate, GoesOn, IsEnded, HasStopped, IsMoved, Fates, HasEnded, Nobody, feeds_on, sound_fates, fates_none, fates_then, seats_fates}
use Rattle.radio_core.proofs.Sessions.SilentLemmas.{silent_then}
use Rattle.radio_core.proofs.Sound.SoundEnds.{over_fates, late_beside, still_feeds, has_none_then, order_then}
use Rattle.radio_core.proofs.Clients.Standings.{Turns, turns_ended_by}

module _ (seconds ms : ℕ) where
  pub clients_after : (clients : List Client) (id : ℕ)
      → client_of (map (timed_out seconds ms) clients) id ≡ option_map (timed_out seconds ms) (client_of clients id)
  clients_after clients id = find_mapped (is_client id) (timed_out seconds ms) (λ client. refl) clients

  -- who asks too late after that, by whatever measure, was as it is
  late_at : (client : Client) (b : Bool) (seconds' ms' : ℕ)
      → asks_too_late seconds' ms' (with_client_state (if b then Ended HeaderTimeout else client.state) client) ≡ true
      → with_client_state (if b then Ended HeaderTimeout else client.state) client ≡ client
  late_at client true seconds' ms' e = cc
  late_at client false seconds' ms' e = refl

  late_in : (found : Option Client) (client : Client) (seconds' ms' : ℕ) → option_map (timed_out seconds ms) found ≡ Some client
      → asks_too_late seconds' ms' client ≡ true → found ≡ Some client
  late_in None client seconds' ms' e late = cc
  late_in (Some old) client seconds' ms' e late =
      let one : timed_out seconds ms old ≡ client = cc in
      let same = late_at old (asks_too_late seconds ms old) seconds' ms' (ap (λ (x : Client). asks_too_late seconds' ms' x) one ∙ late) in
      ap (λ (x : Client). Some x) (sym same ∙ one)

-- who asks for nothing is undecided
pub asking_at : (seconds ms arrived : ℕ) (state : ClientState) → asks_nothing seconds ms arrived state ≡ true → state ≡ IsNew
asking_at seconds ms arrived IsNew e = refl
asking_at seconds ms arrived (IsSource mount) e = cc
asking_at seconds ms arrived Listens e = cc
asking_at seconds ms arrived HasHisAnswer e = cc
asking_at seconds ms arrived (Ended rule) e = cc

-- who had a seat at some moment of what ends and moves had one at first
pub had_before : (C : ℕ → Rule → Type 0) (M : ℕ → Session → Type 0) (S : ℕ → Type 0) (L : World → Seat → Session → Type 0) (w later : World)
    → Fates C M S L w later → (id : ℕ) (seat : Seat) → seat_of later.seats id ≡ Some seat → (old : Seat) × (seat_of w.seats id ≡ Some old)
had_before C M S L w later f id seat e = by_fate (f.fate id) where
  by_fate : Fate C M S L w later id → (old : Seat) × (seat_of w.seats id ≡ Some old)
  by_fate (GoesOn same seats feeds sits) = (seat, sym seats ∙ e)
  by_fate (IsEnded rule cause active ended none over) = cc
  by_fate (HasStopped mount why feeding done none over) = cc
  by_fate (IsMoved old session carries left had has same live opens) = (old, had)

-- the whole change: each cause is of the state before it
module _ (w : World) (s : IsSound w) (ms : ℕ) where
  abbrev pub ClockCause : ℕ → Rule → Type 0
  ClockCause = Cause w (ticked w ms) (Clock ms)

  abbrev pub ClockCarries : ℕ → Session → Type 0
  ClockCarries id session = TakesTo w (Clock ms) id session.mount

  abbrev ClockFate : World → World → ℕ → Type 0
  ClockFate = Fate ClockCause ClockCarries Nobody HasEnded

  abbrev pub ClockFates : World → World → Type 0
  ClockFates = Fates ClockCause ClockCarries Nobody HasEnded

  abbrev pub timed : World
  timed = record w { station = timed_out_by w.station ms }

  abbrev timeout : ℕ
  timeout = w.station.settings.limits.header_timeout

  stands_in : (id : ℕ) (found : Option Client) → client_of timed.station.clients id ≡ found
      → standing_of timed id ≡ standing_of_found (relay_of w.station.relays id) (listener_of w.seats id) found
  stands_in id found e = ap (standing_of_found (relay_of w.station.relays id) (listener_of w.seats id)) e

  stood_in : (id : ℕ) (found : Option Client) → client_of w.station.clients id ≡ found
      → standing_of w id ≡ standing_of_found (relay_of w.station.relays id) (listener_of w.seats id) found
  stood_in id found e = ap (standing_of_found (relay_of w.station.relays id) (listener_of w.seats id)) e

  new_by : (relay : Option Relay) (listener : Option Listener) (client : Client) → client.state ≡ IsNew
      → standing_of_found relay listener (Some client) ≡ Undecided client.peer
  new_by relay listener client e = rw e refl

  has_no_seat : (id : ℕ) (peer : Peer) → standing_of w id ≡ Undecided peer → seat_of w.seats id ≡ None
  has_no_seat id peer e = by_found (seat_of w.seats id) refl where
    by_found : (found : Option Seat) → seat_of w.seats id ≡ found → found ≡ None
    by_found None h = refl
    by_found (Some seat) h = let sat : standing_of w id ≡ Sits = s.sitting id seat h in cc

  timeout_at : (id : ℕ) (client : Client) → client_of w.station.clients id ≡ Some client → (b : Bool) → asks_too_late timeout ms client ≡ b
      → client_of timed.station.clients id ≡ Some (with_client_state (if b then Ended HeaderTimeout else client.state) client)
      → ClockFate w timed id
  timeout_at id client found true late now =
      let is_new : client.state ≡ IsNew = asking_at timeout ms client.arrived client.state late in
      let undecided : standing_of w id ≡ Undecided client.peer = stood_in id (Some client) found ∙ new_by (relay_of w.station.relays id) (listener_of w.seats id) client is_new in
      IsEnded HeaderTimeout (HasAskedNothing ms client refl found late) (subst (λ (x : Standing). IsActive x) (sym undecided) tt)
      (stands_in id (Some (with_client_state (Ended HeaderTimeout) client)) now) (has_no_seat id client.peer undecided) (λ mount e. cc)
  timeout_at id client found false late now =
      GoesOn (stands_in id (Some client) now ∙ sym (stood_in id (Some client) found)) refl (λ mount e. refl) (λ seat e. refl)

  timeout_fate : (id : ℕ) → ClockFate w timed id
  timeout_fate id = by_found (client_of w.station.clients id) refl where
    by_found : (found : Option Client) → client_of w.station.clients id ≡ found → ClockFate w timed id
    by_found None none =
        let now : client_of timed.station.clients id ≡ None = clients_after timeout ms w.station.clients id
        ∙ ap (option_map (timed_out timeout ms)) none in
        GoesOn (stands_in id None now ∙ sym (stood_in id None none)) refl (λ mount e. refl) (λ seat e. refl)
    by_found (Some client) found =
        let now : client_of timed.station.clients id ≡ Some (timed_out timeout ms client) =
        clients_after timeout ms w.station.clients id ∙ ap (option_map (timed_out timeout ms)) found in
        timeout_at id client found (asks_too_late timeout ms client) refl now

  pub timeout_fates : ClockFates w timed
  timeout_fates = record {
    last = refl;
    lists = refl;
    settings = refl;
    live = λ mount session e. e;
    apart = s.apart;
    by_number = s.by_number;
    late = λ id client seconds' ms' e late. late_in timeout ms (client_of w.station.clients id) client seconds' ms'
        (sym (clients_after timeout ms w.station.clients id) ∙ e) late;
    fate = timeout_fate;
  }

  pub sound_timed : IsSound timed
  sound_timed = sound_fates ClockCause ClockCarries Nobody HasEnded w timed s timeout_fates

  -- listeners who have had their time
  pub fates_sat_out : ClockFates timed (before_silence w ms)
  fates_sat_out =
      seats_fates ClockCause ClockCarries Nobody HasEnded timed sound_timed (has_sat_out w.station.settings ms) TimeOver
      (λ id seat has out. HasSatOut ms seat refl has out)

  pub sound_sat_out : IsSound (before_silence w ms)
  sound_sat_out = sound_fates ClockCause ClockCarries Nobody HasEnded timed (before_silence w ms) sound_timed fates_sat_out

  pub until_sat_out : ClockFates w (before_silence w ms)
  until_sat_out = fates_then ClockCause ClockCarries w timed (before_silence w ms) timeout_fates fates_sat_out

  -- a state on the way of the clock: of the silent sessions some have ended, and these are to end still
  pub record IsOnTheWay (sessions : List Session) (during : World) : Type 0 where
    pub before : List Session
    pub are_all : silent_in (before_silence w ms) ≡ before ++ sessions
    pub have_ended : during ≡ fold session_silenced (before_silence w ms) before
    pub are_left : silent_in during ≡ sessions
    pub sound : IsSound during
    pub now : during.station.time ≡ ms
    pub so_far : ClockFates w during

  pub at_first : IsOnTheWay (silent_in (before_silence w ms)) (before_silence w ms)
  at_first = record {
    before = [];
    are_all = refl;
    have_ended = refl;
    are_left = refl;
    sound = sound_sat_out;
    now = refl;
    so_far = until_sat_out;
  }

  -- a silent session ends
  module _ (session : Session) (sessions : List Session) (during : World) (way : IsOnTheWay (session ∷ sessions) during) where
    abbrev after_silence : World
    after_silence = session_silenced during session

    abbrev silent_then_too : Session → Bool
    silent_then_too = is_silent during.station.settings.limits.source_timeout during.station.time

    found : find silent_then_too during.station.live ≡ Some session
    found = found_first silent_then_too during.station.live session sessions way.are_left

    pub live_there : session_of during.station.live session.mount ≡ Some session
    live_there = found_own silent_then_too during.station.live session way.sound.apart found

    silent_now : is_silent w.station.settings.limits.source_timeout ms session ≡ true
    silent_now =
        ap (λ (settings : Settings). is_silent settings.limits.source_timeout ms session) (sym way.so_far.settings)
        ∙ ap (λ (moment : ℕ). is_silent during.station.settings.limits.source_timeout moment session) (sym way.now)
        ∙ found_passes silent_then_too during.station.live session found

    feeding : standing_of during session.number ≡ Feeds session.mount
    feeding = way.sound.fed session.mount session live_there

    fed_before : standing_of w session.number ≡ Feeds session.mount
    fed_before = (feeds_on ClockCause ClockCarries Nobody HasEnded w during s way.so_far session.number session.mount feeding).0

    brings : Brings w (Clock ms) (SessionEnds session.mount) (session_over during session.mount)
    brings =
        subst (λ (v : World). Brings w (Clock ms) (SessionEnds session.mount) (session_over v session.mount)) (sym way.have_ended)
        (BySilence ms way.before sessions session way.are_all)

    pub turned : Turns (session_ended during session.mount) (session_silenced during session) session.number (Finished SourceSilent)
    turned = turns_ended_by (session_ended during session.mount) session.number SourceSilent
        (λ u. let still = still_feeds during way.sound session.number session.mount feeding in cc)

    pub silenced_fates : ClockFates during (session_silenced during session)
    silenced_fates =
        over_fates ClockCause ClockCarries Nobody during way.sound session.number session.mount feeding after_silence (Finished SourceSilent) turned refl
        (λ id other. refl)
        (IsEnded SourceSilent (HasSentNothing ms session refl fed_before (way.so_far.live session.mount session live_there) silent_now)
        (subst (λ (x : Standing). IsActive x) (sym feeding) tt) turned.his (has_none_then during way.sound session.number session.mount feeding)
        (λ m e.
        let both : Feeds session.mount ≡ Feeds m = sym feeding ∙ e in
        let one : session.mount ≡ m = cc in
        ap (session_of after_silence.station.live) (sym one) ∙ is_over during.station.live session.mount))
        (λ id seat rule had turn.
        let old = had_before ClockCause ClockCarries Nobody HasEnded w during way.so_far id seat had in
        SessionIsOver rule old.0 old.1 (SessionEnds session.mount, session_over during session.mount, brings, turn))
        (λ id target turn. (SessionEnds session.mount, session_over during session.mount, brings, turn))
        refl refl refl (order_then during way.sound session.number session.mount feeding)
        (late_beside during.station.clients session.number (Ended SourceSilent) (λ client seconds moment late. cc))

    pub goes_on : IsOnTheWay sessions (session_silenced during session)
    goes_on = record {
      before = way.before ++ session ∷ [];
      are_all = way.are_all ∙ sym (append_assoc way.before (session ∷ []) sessions);
      have_ended =
          ap (λ (v : World). session_silenced v session) way.have_ended
          ∙ sym (fold-append session_silenced (before_silence w ms) way.before (session ∷ []));
      are_left = silent_then during session way.sound.apart sessions way.are_left;
      sound = sound_fates ClockCause ClockCarries Nobody HasEnded during after_silence way.sound silenced_fates;
      now = way.now;
      so_far = fates_then ClockCause ClockCarries w during after_silence way.so_far silenced_fates;
    }

  -- all silent sessions end
  silence_fates : (sessions : List Session) (during : World) → IsOnTheWay sessions during → ClockFates during (fold session_silenced during sessions)
  silence_fates [] during way = fates_none ClockCause ClockCarries Nobody HasEnded during way.sound
  silence_fates (session ∷ sessions) during way =
      let next = session_silenced during session in
      fates_then ClockCause ClockCarries during next (fold session_silenced next sessions) (silenced_fates session sessions during way)
      (silence_fates sessions next (goes_on session sessions during way))

  pub fates_silence : ClockFates (before_silence w ms) (ticked w ms)
  fates_silence = silence_fates (silent_in (before_silence w ms)) (before_silence w ms) at_first

  pub ticked_fates : ClockFates w (ticked w ms)
  ticked_fates = fates_then ClockCause ClockCarries w (before_silence w ms) (ticked w ms) until_sat_out fates_silence
