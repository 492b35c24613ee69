-- the last mount of a listener
use Rattle.std.proofs.Common.{◌++◌, ◌≡◌, Bool, true, false, ℕ, ◌==◌, Option, Some, None, List, [], ◌∷◌, refl, ap, sym, subst, ◌∙◌}
use Rattle.radio_laws.proofs.Words.{if◌then◌else◌, fold, nat_lt, option_map, TimeOver, options_for, by_number, Listener, Seat, Seating, listener_of, seat_held, seat_in, seat_of, last_mount, last_mount_of}
use Rattle.radio_laws.proofs.Words.{with_session_at, without_listener, AreByNumber, had_seat, kept_seat, beside_left, beside_seated, listener_seated, Move, Ended, Up, Session, order_ended, has_sat_out, StationState}
use Rattle.radio_laws.proofs.Words.{sight_of, Undecided, Sits, World, world, standing_of, Peer, Event, Clock, Nothing, Tick, changed, carried_along, session_over, session_ended, called_home, before_silence, silent_in}
use Rattle.radio_laws.proofs.Words.{session_silenced, ticked, first_seat, Brings, ByItsEnd, ByItsLeaving, BySilence, ByComingUp, ByRelayUp, ByKilling, ByMoving, IsSound, outcome, world_after, order_carried, sound_after}
use Rattle.radio_laws.proofs.Words.{Leaving}
use Rattle.std.proofs.lemmas.List.Sums.{fold-append}
use Rattle.radio_seats_rows.specs.declared.seat.Seating.TheVariants.{Sits as HasSeat, Finished as HasLostIt}
use Rattle.radio_laws.proofs.Ends.GoneLemmas.{given_number, left_at_once}
use Rattle.radio_laws.proofs.Seats.HeardLaws.{order_given}
use Rattle.radio_laws.proofs.Seats.WalkingOnLemmas.{order_silenced, closes_no_clock}
use Rattle.radio_laws.proofs.Seats.RowSteps.{RowStep, IsSame, none_changed, last_at, step_ended, step_carried, step_lost, step_heard, step_given}
use Rattle.radio_laws.proofs.Seats.TableSteps.{TableStep, IsUntouched, AreEnded, IsEnded, AreCarried, AreGiven, SitsDown, IsHanded}
use Rattle.radio_laws.proofs.Seats.TableSteps.{IsGone, SourceIsGone, HasTicked, table_step}
use Rattle.radio_laws.specs.LastMounts.{IsLastWhereHeSits, FinishedWhereHeSat, EndedByClockWhereTheySat, FinishedRowsStay}

-- the ends of sessions leave a listener without a seat alone
none_silenced : (sessions : List Session) (during : World) → AreByNumber during.seats → (id : ℕ) → seat_of during.seats id ≡ None
    → listener_of (fold session_silenced during sessions).seats id ≡ listener_of during.seats id
none_silenced [] during order id none = refl
none_silenced (session ∷ sessions) during order id none =
    let over = session_over during session.mount in
    let same = none_changed _ _ (step_carried during.seats id (sight_of over.station) (Ended session.mount) order) none in
    none_silenced sessions (session_silenced during session) (order_carried over (Ended session.mount) order) id (ap seat_in same ∙ none) ∙ same

-- a client that is no seated listener has no seat
pub seatless : (w : World) → IsSound w → (id : ℕ) → (standing_of w id ≡ Sits → ⊥) → seat_of w.seats id ≡ None
seatless w s id elsewhere = by_seat (seat_of w.seats id) refl where
  by_seat : (found : Option Seat) → seat_of w.seats id ≡ found → seat_of w.seats id ≡ None
  by_seat None none = none
  by_seat (Some seat) has = absurd (elsewhere (s.sitting id seat has))

-- what an event makes of the row of a client that is a listener already: the clock does several things, one after another
data EventStep (w : World) (event : Event) (id : ℕ) (later : List Listener) : Type 0 where
  AtOnce : RowStep (listener_of w.seats id) (listener_of later id) → EventStep w event id later
  Leaves : Leaving w id event → EventStep w event id later
  AtAMoment : (ms : ℕ) → event ≡ Clock ms → later ≡ (ticked w ms).seats → EventStep w event id later

module _ (w : World) (s : IsSound w) (id : ℕ) (asks : (peer : Peer) → standing_of w id ≡ Undecided peer → ⊥) where
  abbrev StepsTo : List Listener → Type 0
  StepsTo later = RowStep (listener_of w.seats id) (listener_of later id)

  -- the listener that sits down is another one
  another : (him : ℕ) (peer : Peer) → standing_of w him ≡ Undecided peer → (him == id) ≡ false
  another him peer undecided = by_number him id (λ same. absurd (asks peer (ap (standing_of w) (sym same) ∙ undecided))) (λ apart. apart)

  home : (station : StationState) (mount : List ℕ) (session : ℕ) → StepsTo (called_home (world station (with_session_at w.seats mount session)) mount).seats
  home station mount session = step_given w.seats id mount session _ (by_setting (options_for station.settings mount).listeners.fallback_override) where
    given : List Listener
    given = with_session_at w.seats mount session

    by_setting : (calls : Bool)
        → RowStep (listener_of given id) (listener_of (if calls then carried_along (world station given) (Up mount) else world station given).seats id)
    by_setting true = step_carried given id (sight_of station) (Up mount) (order_given mount session w.seats s.by_number)
    by_setting false = IsSame refl

  unless_gone : (event : Event) (him : ℕ) (seats : List Listener) → Leaving w him event → StepsTo seats → EventStep w event id (without_listener seats him)
  unless_gone event him seats leaving step =
      by_number him id
      (λ same. Leaves (subst (λ (n : ℕ). Leaving w n event) same leaving))
      (λ apart. AtOnce (rw (beside_left seats him id apart) step))

  by_table : (event : Event) (later : List Listener) → TableStep w event later → EventStep w event id later
  by_table event later IsUntouched = AtOnce (IsSame refl)
  by_table event later (AreEnded p rule) = AtOnce (step_ended w.seats id p rule)
  by_table event later (IsEnded him rule) = AtOnce (step_lost w.seats id him rule)
  by_table event later (AreCarried station move same) = AtOnce (step_carried w.seats id (sight_of station) move s.by_number)
  by_table event later (AreGiven station mount session same) = AtOnce (home station mount session)
  by_table event later (SitsDown asked peer session undecided lands live) =
      AtOnce (IsSame (beside_seated w.seats asked.id id (another asked.id peer undecided) (first_seat w.station asked peer session)))
  by_table event later (IsHanded him place seat has) = AtOnce (step_heard w.seats id him place seat has)
  by_table event later (IsGone him leaving) = unless_gone event him w.seats leaving (IsSame refl)
  by_table event later (SourceIsGone him mount leaving) =
      unless_gone event him (session_ended w mount).seats leaving
      (step_carried w.seats id (sight_of (session_over w mount).station) (Ended mount) s.by_number)
  by_table event later (HasTicked ms e) = AtAMoment ms e refl

  event_step : (event : Event) → EventStep w event id (world_after w event).seats
  event_step event = by_table event (world_after w event).seats (table_step w event)

-- a listener with a seat sits last at its mount
pub last_where_he_sits : (w : World) → IsLastWhereHeSits w
last_where_he_sits w id seat has =
    let listener = listener_seated w.seats id seat has in
    ap (option_map (λ listener. last_mount listener.seating)) listener.1 ∙ at_seat listener.0.seating listener.2 where
      at_seat : (seating : Seating) → seat_held seating ≡ Some seat → Some (last_mount seating) ≡ Some seat.mount
      at_seat (HasSeat held) e = let same : held ≡ seat = cc in ap (λ (x : Seat). Some x.mount) same
      at_seat (HasLostIt rule last) e = cc

-- and so does a listener that loses it
pub finished_where_he_sat : (w : World) → IsSound w → (event : Event) → FinishedWhereHeSat w event
finished_where_he_sat w s event no_clock id seat rule has over =
    by_step (event_step w s id (λ peer e. let sat = s.sitting id seat has in cc) event) where
      by_step : EventStep w event id (world_after w event).seats → last_mount_of (world_after w event).seats id ≡ Some seat.mount
      by_step (AtOnce step) = last_at _ _ step seat has (seatless (world_after w event) (sound_after w s event) id (λ sits. cc))
      by_step (Leaves leaving) = let gone = (left_at_once w id (given_number w s id seat has) event leaving).1 in cc
      by_step (AtAMoment ms e is) = absurd (no_clock ms e)

-- and by the clock
module _ (w : World) (s : IsSound w) (ms : ℕ) where
  abbrev ends_by_time : Seat → Bool
  ends_by_time = has_sat_out w.station.settings ms

  first_step : (id : ℕ) → RowStep (listener_of w.seats id) (listener_of (before_silence w ms).seats id)
  first_step id = step_ended w.seats id ends_by_time TimeOver

  order_at_first : AreByNumber (before_silence w ms).seats
  order_at_first = order_ended w.seats s.by_number ends_by_time TimeOver

  none_ticked : (id : ℕ) → seat_of (before_silence w ms).seats id ≡ None
      → listener_of (ticked w ms).seats id ≡ listener_of (before_silence w ms).seats id
  none_ticked id none = none_silenced (silent_in (before_silence w ms)) (before_silence w ms) order_at_first id none

  sits_no_more : (id : ℕ) (seat : Seat) → seat_of w.seats id ≡ Some seat → ends_by_time seat ≡ true → seat_of (before_silence w ms).seats id ≡ None
  sits_no_more id seat has out = by_seat (seat_of (before_silence w ms).seats id) refl where
    by_seat : (found : Option Seat) → seat_of (before_silence w ms).seats id ≡ found → seat_of (before_silence w ms).seats id ≡ None
    by_seat None none = none
    by_seat (Some now) still =
        let both : Some seat ≡ Some now = sym has ∙ had_seat ends_by_time TimeOver w.seats id now still in
        let same : seat ≡ now = cc in
        let ends : ends_by_time now ≡ true = ap ends_by_time (sym same) ∙ out in
        let stays : ends_by_time now ≡ false = kept_seat ends_by_time TimeOver w.seats id now still in
        cc

  sat_out : (id : ℕ) (seat : Seat) → seat_of w.seats id ≡ Some seat → ends_by_time seat ≡ true → last_mount_of (ticked w ms).seats id ≡ Some seat.mount
  sat_out id seat has out =
      let none = sits_no_more id seat has out in
      ap (option_map (λ listener. last_mount listener.seating)) (none_ticked id none) ∙ last_at _ _ (first_step id) seat has none

  -- one session ends, and those after it then
  module _ (before others : List Session) (session : Session) (are_all : silent_in (before_silence w ms) ≡ before ++ session ∷ others) where
    abbrev during : World
    during = fold session_silenced (before_silence w ms) before

    left_out : (id : ℕ) (seat : Seat) → seat_of during.seats id ≡ Some seat → seat_of (session_silenced during session).seats id ≡ None
        → last_mount_of (ticked w ms).seats id ≡ Some seat.mount
    left_out id seat has none =
        let over = session_over during session.mount in
        let order = order_silenced w s before (before_silence w ms) order_at_first in
        ap (λ (sessions : List Session). last_mount_of (fold session_silenced (before_silence w ms) sessions).seats id) are_all
        ∙ ap (λ (later : World). last_mount_of later.seats id) (fold-append session_silenced (before_silence w ms) before (session ∷ others))
        ∙ ap (option_map (λ listener. last_mount listener.seating))
        (none_silenced others (session_silenced during session) (order_carried over (Ended session.mount) order) id none)
        ∙ last_at _ _ (step_carried during.seats id (sight_of over.station) (Ended session.mount) order) seat has none

-- it is no past moment
ticks : (w : World) (ms : ℕ) → nat_lt ms w.station.time ≡ false → world_after w (Clock ms) ≡ ticked w ms
unfolding world_after outcome
ticks w ms e = ap (λ (b : Bool). changed w (if b then Nothing else Tick ms)) e

left_by : (w : World) → IsSound w → (ms : ℕ) (event : Event) (move : Move) (before : World) → event ≡ Clock ms → Brings w event move before
    → (id : ℕ) (seat : Seat) → seat_of before.seats id ≡ Some seat → seat_of (carried_along before move).seats id ≡ None
    → last_mount_of (ticked w ms).seats id ≡ Some seat.mount
left_by w s ms event move before e (BySilence moment silent others session are_all) id seat has none =
    let now : moment ≡ ms = cc in
    subst (λ (n : ℕ). last_mount_of (ticked w n).seats id ≡ Some seat.mount) now (left_out w s moment silent others session are_all id seat has none)
left_by w s ms event move before e (ByItsEnd him mount feeding no_relay) id seat has none = cc
left_by w s ms event move before e (ByItsLeaving _ him mount closes feeding) id seat has none = absurd (closes_no_clock w ms event him e closes)
left_by w s ms event move before e (ByComingUp asked peer stood allowed calls) id seat has none = cc
left_by w s ms event move before e (ByRelayUp mount shown allowed calls) id seat has none = cc
left_by w s ms event move before e (ByKilling _ mount c) id seat has none = let other = c.is_event in cc
left_by w s ms event move before e (ByMoving _ mount destination c) id seat has none = let other = c.is_event in cc

pub ended_by_clock : (w : World) → IsSound w → (ms : ℕ) → EndedByClockWhereTheySat w ms
ended_by_clock w s ms = record {
  sat_out = λ now id seat has out. ap (λ (later : World). last_mount_of later.seats id) (ticks w ms now) ∙ sat_out w s ms id seat has out;
  left_out = λ now move before brings id seat has none.
      ap (λ (later : World). last_mount_of later.seats id) (ticks w ms now) ∙ left_by w s ms (Clock ms) move before refl brings id seat has none;
}

-- a finished listener keeps its last mount
pub rows_stay : (w : World) → IsSound w → (event : Event) → FinishedRowsStay w event
rows_stay w s event id rule over stays = by_step (event_step w s id (λ peer e. cc) event) where
  none : seat_of w.seats id ≡ None
  none = seatless w s id (λ sits. cc)

  by_step : EventStep w event id (world_after w event).seats → listener_of (world_after w event).seats id ≡ listener_of w.seats id
  by_step (AtOnce step) = none_changed _ _ step none
  by_step (Leaves leaving) = absurd (stays leaving)
  by_step (AtAMoment ms e is) =
      let same = none_changed _ _ (first_step w s ms id) none in
      ap (λ (seats : List Listener). listener_of seats id) is ∙ none_ticked w s ms id (ap seat_in same ∙ none) ∙ same
