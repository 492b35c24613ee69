-- how each client fares where a session ends, and what holds of every state of a run holds still
use Rattle.std.proofs.Common.{◌≡◌, Bool, true, false, ℕ, ◌==◌, Option, Some, None, List, refl, ap, sym, subst, ◌∙◌, arith}
use Rattle.radio_core.proofs.Words.{not, bytes_eq, nat_tests, bytes_eq-Decides, Rule, by_number, by_name, Move, Stays, GoesTo, IsOut, Faring, HasStayed, HasGone, HasLost, fares, nobody_stays, Event, SourceEnd, client_in}
use Rattle.radio_core.proofs.Words.{ClientState, End, EndAndLeave, Seat, Standing, Unknown, Feeds, Sits, Answered, World, standing_of, has_relay, changed, carried_along, session_over, session_ended, Client, client_of}
use Rattle.radio_core.proofs.Words.{with_client_state, in_state, Closes, sight_of, Cause, SessionIsOver, his_turn, ByItsEnd, ByItsLeaving, TakesTo, seat_of, seat_in, AreByNumber, Session, is_of, session_of}
use Rattle.radio_core.proofs.Words.{without_session, AreApart, IsSound, asks_too_late, beside_left, is_no_listener, kept_apart, bytes_apart, beside_ended, is_over, beside_state, beside_forgotten, does, still_none}
use Rattle.radio_core.proofs.Words.{is_no_client, order_left, heard_same}
use Rattle.radio_fallback.specs.declared.moves.Move.TheVariants.{Ended as SessionEnds}
use Rattle.radio_parts_station.specs.declared.clients.ClientState.TheVariants.{Answered as HasHisAnswer}
use Rattle.radio_core.proofs.Clients.CarriedFates.{order_carried, carried_fate}
use Rattle.radio_core.proofs.Clients.Fates.{IsDone, Fate, GoesOn, HasStopped, Fates, HasEnded, sound_fates}
use Rattle.radio_core.proofs.Clients.ClosingLemmas.{closes_his}
use Rattle.radio_core.proofs.Clients.Standings.{Turns, is_client_there, turns_answered, turns_forgotten, feeds_whoever_sits}
use Rattle.radio_core.proofs.Seats.HeardApart.{sits_past_zero}

-- who has no seat has none when a move has carried the others along
pub no_seat_carried : (w : World) (move : Move) → AreByNumber w.seats → (id : ℕ) → seat_of w.seats id ≡ None → seat_of (carried_along w move).seats id ≡ None
no_seat_carried w move order id none = by_fare (fares (sight_of w.station) move w.seats order id) where
  by_fare : Faring (sight_of w.station) move w.seats id → seat_of (carried_along w move).seats id ≡ None
  by_fare (HasStayed same turn) = ap seat_in same ∙ none
  by_fare (HasGone seat to turn had concerned fits now) = cc
  by_fare (HasLost seat rule turn had concerned now) = cc

-- a source has no seat
pub source_has_none : (w : World) → IsSound w → (him : ℕ) (mount : List ℕ) → standing_of w him ≡ Feeds mount → seat_of w.seats him ≡ None
source_has_none w s him mount feeding = by_found (seat_of w.seats him) refl where
  by_found : (found : Option Seat) → seat_of w.seats him ≡ found → found ≡ None
  by_found None e = refl
  by_found (Some seat) e = let sat : standing_of w him ≡ Sits = s.sitting him seat e in cc

-- what is live when a session is over was live before
pub was_live : (w : World) (mount other : List ℕ) (session : Session) → session_of (without_session w.station.live mount) other ≡ Some session
    → session_of w.station.live other ≡ Some session
was_live w mount other session e =
    by_name mount other
    (λ same.
    let none : session_of (without_session w.station.live mount) other ≡ None
    = ap (session_of (without_session w.station.live mount)) (sym same) ∙ is_over w.station.live mount in cc)
    (λ apart. sym (beside_ended w.station.live mount other apart) ∙ e)

-- the session of a mount has ended, and its source turns to something else
module _ (C : ℕ → Rule → Type 0) (M : ℕ → Session → Type 0) (S : ℕ → Type 0) (w : World) (s : IsSound w) (him : ℕ) (mount : List ℕ)
    (feeding : standing_of w him ≡ Feeds mount) (later : World) (now : Standing) (t : Turns (session_ended w mount) later him now)
    (live : later.station.live ≡ without_session w.station.live mount)
    (seats : (id : ℕ) → (him == id) ≡ false → seat_of later.seats id ≡ seat_of (session_ended w mount).seats id) (his : Fate C M S HasEnded w later him)
    (causes : (id : ℕ) (seat : Seat) (rule : Rule) → seat_of w.seats id ≡ Some seat → his_turn (session_over w mount) (SessionEnds mount) id ≡ IsOut rule
    → C id rule)
    (carries : (id : ℕ) (session : Session) → his_turn (session_over w mount) (SessionEnds mount) id ≡ GoesTo session.mount → M id session) where
  live_then : (other : List ℕ) → session_of later.station.live other ≡ session_of (without_session w.station.live mount) other
  live_then other = ap (λ (sessions : List Session). session_of sessions other) live

  left_over : (other : List ℕ) → bytes_eq mount other ≡ false → session_of later.station.live other ≡ session_of w.station.live other
  left_over other apart = live_then other ∙ beside_ended w.station.live mount other apart

  -- another source feeds another mount
  other_mount : (id : ℕ) (other : List ℕ) → (him == id) ≡ false → standing_of w id ≡ Feeds other → bytes_eq mount other ≡ false
  other_mount id other apart feeds =
      by_name mount other
      (λ same.
      let ours = s.feeds him mount feeding in
      let theirs = s.feeds id other feeds in
      let both : Some ours.0 ≡ Some theirs.0 = sym ours.1 ∙ ap (session_of w.station.live) same ∙ theirs.1 in
      let number : ours.0.number ≡ theirs.0.number = cc in
      let one : him ≡ id = sym ours.2 ∙ number ∙ theirs.2 in
      let itself : (him == id) ≡ true = grind (arith, nat_tests) in
      cc)
      (λ away. away)

  -- who stays sits at another mount
  elsewhere : (id : ℕ) (seat : Seat) → seat_of w.seats id ≡ Some seat → his_turn (session_over w mount) (SessionEnds mount) id ≡ Stays
      → bytes_eq mount seat.mount ≡ false
  elsewhere id seat has turn = by_test (bytes_eq seat.mount mount) refl where
    by_test : (b : Bool) → bytes_eq seat.mount mount ≡ b → bytes_eq mount seat.mount ≡ false
    by_test true there = absurd (nobody_stays (sight_of (session_over w mount).station) mount w.seats id seat has there turn)
    by_test false away = bytes_apart seat.mount mount away

  module _ (last : later.station.last_id ≡ w.station.last_id) (lists : later.station.lists ≡ w.station.lists) (settings : later.station.settings ≡ w.station.settings)
      (order : AreByNumber later.seats)
      (late : (id : ℕ) (client : Client) (seconds ms : ℕ) → client_of later.station.clients id ≡ Some client → asks_too_late seconds ms client ≡ true
      → client_of w.station.clients id ≡ Some client) where
    fate_of : (id : ℕ) → (him == id) ≡ false → Fate C M S HasEnded w later id
    fate_of id other =
        carried_fate C M S HasEnded w s (session_over w mount).station refl refl refl (SessionEnds mount) later
        (λ m. heard_same later.station (session_over w mount).station m settings (live_then m)) id
        (t.others id other) (seats id other)
        (λ turn same seats. GoesOn same seats (λ m feeds. left_over m (other_mount id m other feeds)) (λ seat has. left_over seat.mount
        (elsewhere id seat has (turn seat has))))
        (λ seat session had there turn is_live.
        let same : seat.mount ≡ mount = (bytes_eq-Decides seat.mount mount).0 there in
        let ours = s.feeds him mount feeding in (
          ap (session_of later.station.live) same ∙ live_then mount ∙ is_over w.station.live mount,
          sits_past_zero w s id seat ours.0 had (ap (session_of w.station.live) same ∙ ours.1),
        ))
        (causes id) (carries id)

    pub over_fates : Fates C M S HasEnded w later
    over_fates = record {
      last = last;
      lists = lists;
      settings = settings;
      live = λ other session e. was_live w mount other session (sym (live_then other) ∙ e);
      apart = subst AreApart (sym live) (kept_apart (λ session. not (is_of mount session)) w.station.live s.apart);
      by_number = order;
      late = late;
      fate = λ id. by_number him id (λ same. subst (λ (n : ℕ). Fate C M S HasEnded w later n) same his) (λ other. fate_of id other);
    }

-- who asks too late after one client has turned to something else was as it is
pub late_beside : (clients : List Client) (him : ℕ) (state : ClientState)
    → ((client : Client) (seconds ms : ℕ) → asks_too_late seconds ms (with_client_state state client) ≡ true → ⊥)
    → (id : ℕ) (client : Client) (seconds ms : ℕ) → client_of (in_state clients him state) id ≡ Some client → asks_too_late seconds ms client ≡ true
    → client_of clients id ≡ Some client
late_beside clients him state never id client seconds ms e late =
    by_number him id (λ same. by_found same (client_of clients him) refl) (λ other. sym (beside_state clients him id other state) ∙ e) where
      by_found : him ≡ id → (found : Option Client) → client_of clients him ≡ found → client_of clients id ≡ Some client
      by_found same None none =
          let still : client_of (in_state clients him state) id ≡ None
          = ap (client_of (in_state clients him state)) (sym same) ∙ still_none him state clients none in cc
      by_found same (Some old) there =
          let both : Some (with_client_state state old) ≡ Some client
          = sym (does clients him state old there) ∙ ap (client_of (in_state clients him state)) same ∙ e in
          let one : with_client_state state old ≡ client = cc in
          absurd (never old seconds ms (ap (λ (x : Client). asks_too_late seconds ms x) one ∙ late))

module _ (w : World) (s : IsSound w) (him : ℕ) (mount : List ℕ) (feeding : standing_of w him ≡ Feeds mount) where
  pub still_feeds : standing_of (session_ended w mount) him ≡ Feeds mount
  still_feeds = feeds_whoever_sits w (session_ended w mount).seats him mount feeding

  pub has_none_then : seat_of (session_ended w mount).seats him ≡ None
  has_none_then = no_seat_carried (session_over w mount) (SessionEnds mount) s.by_number him (source_has_none w s him mount feeding)

  pub order_then : AreByNumber (session_ended w mount).seats
  order_then = order_carried (session_over w mount) (SessionEnds mount) s.by_number

  -- its data have ended
  abbrev ended : World
  ended = changed w (End him mount)

  pub turns_ended : has_relay w him ≡ false → Turns (session_ended w mount) (changed w (End him mount)) him Answered
  turns_ended no_relay =
      turns_answered (session_ended w mount) him
      (is_client_there (session_ended w mount) him (λ u. let still : standing_of (session_ended w mount) him ≡ Feeds mount = still_feeds in cc) no_relay)

  pub ended_fates : has_relay w him ≡ false
      → Fates (Cause w (changed w (End him mount)) (SourceEnd him)) (λ id session. TakesTo w (SourceEnd him) id session.mount)
      (λ id. client_in (SourceEnd him) ≡ Some id) HasEnded w (changed w (End him mount))
  ended_fates no_relay =
      over_fates (Cause w ended (SourceEnd him)) (λ id session. TakesTo w (SourceEnd him) id session.mount) (λ id. client_in (SourceEnd him) ≡ Some id)
      w s him mount feeding ended Answered (turns_ended no_relay) refl (λ id other. refl)
      (HasStopped mount refl feeding (subst IsDone (sym (turns_ended no_relay).his) tt) has_none_then (is_over w.station.live mount))
      (λ id seat rule had turn. SessionIsOver rule seat had (SessionEnds mount, session_over w mount, ByItsEnd him mount feeding no_relay, turn))
      (λ id session turn. (SessionEnds mount, session_over w mount, ByItsEnd him mount feeding no_relay, turn))
      refl refl refl order_then (late_beside w.station.clients him HasHisAnswer (λ client seconds ms late. cc))

  -- it has left
  abbrev gone : World
  gone = changed w (EndAndLeave him mount)

  pub turns_ended_and_left : Turns (session_ended w mount) (changed w (EndAndLeave him mount)) him Unknown
  turns_ended_and_left = turns_forgotten (session_ended w mount) him

  pub ended_and_left_fates : (event : Event) → Closes w him event
      → Fates (Cause w (changed w (EndAndLeave him mount)) event) (λ id session. TakesTo w event id session.mount)
      (λ id. client_in event ≡ Some id) HasEnded w (changed w (EndAndLeave him mount))
  ended_and_left_fates event closes =
      over_fates (Cause w gone event) (λ id session. TakesTo w event id session.mount) (λ id. client_in event ≡ Some id)
      w s him mount feeding gone Unknown turns_ended_and_left refl
      (λ id other. ap seat_in (beside_left (session_ended w mount).seats him id other))
      (HasStopped mount (closes_his w him event closes) feeding (subst IsDone (sym turns_ended_and_left.his) tt) (ap seat_in (is_no_listener (session_ended w mount).seats him))
      (is_over w.station.live mount))
      (λ id seat rule had turn. SessionIsOver rule seat had (SessionEnds mount, session_over w mount, ByItsLeaving event him mount closes feeding, turn))
      (λ id session turn. (SessionEnds mount, session_over w mount, ByItsLeaving event him mount closes feeding, turn))
      refl refl refl (order_left (session_ended w mount).seats order_then him)
      (λ id client seconds ms e late.
      by_number him id
      (λ same. let none : client_of gone.station.clients id ≡ None = ap (client_of gone.station.clients) (sym same) ∙ is_no_client w.station.clients him in cc)
      (λ other. sym (beside_forgotten w.station.clients him id other) ∙ e))

  pub sound_ended : has_relay w him ≡ false → IsSound (changed w (End him mount))
  sound_ended no_relay =
      sound_fates (Cause w ended (SourceEnd him)) (λ id session. TakesTo w (SourceEnd him) id session.mount) (λ id. client_in (SourceEnd him) ≡ Some id)
      HasEnded w ended s (ended_fates no_relay)

  pub sound_ended_and_left : (event : Event) → Closes w him event → IsSound (changed w (EndAndLeave him mount))
  sound_ended_and_left event closes =
      sound_fates (Cause w gone event) (λ id session. TakesTo w event id session.mount) (λ id. client_in event ≡ Some id)
      HasEnded w gone s (ended_and_left_fates event closes)
