-- no seat is ever further behind than a queue is long, and no seat's place is forgotten
use Rattle.std.proofs.Common.{◌≡◌, ℕ, ◌-◌, ◌≤◌, Option, Some, None, List, [], ◌∷◌, refl, ap, sym, subst, ◌∙◌, arith}
use Rattle.radio_core.proofs.Words.{option_map, Settings, Lists, Each, found_has, Seat, seat_of, AreByNumber, Event, changed, first_start, kept_from, kept_session, kept_live, EachSeat, NobodyLags, world_after_all}
use Rattle.radio_core.proofs.Words.{run_after, Session, is_of, session_of, HasRisingStarts, IsSound, SeatsAreKept, outcome, world_after, end_of, World, opening, kept_found, kept_end, kept_within, kept_still}
use Rattle.radio_core.proofs.Words.{burst_is_kept, burst_is_near}
use Rattle.radio_core.proofs.Kept.KeptSeats.{HoldsOn, each_after, settings_stay}
use Rattle.radio_core.proofs.Sound.SoundRuns.{sound_after, sound_opening}

module _ (w : World) where
  abbrev queue : ℕ
  queue = w.station.settings.limits.queue_size

  holds_near : HoldsOn (λ stream place. end_of stream - place ≤ queue) w
  holds_near = record {
    at_none = λ place. omega arith;
    at_end = λ mount session live. omega arith;
    at_burst = λ mount session burst live short. omega (arith, burst_is_near burst session.stream, short);
    further = λ stream place more h. omega arith;
    longer = λ mount block session place live h near. near;
  }

  near_still : AreByNumber w.seats → NobodyLags w → (event : Event) → NobodyLags (world_after w event)
  unfolding world_after
  near_still order all event =
      subst (λ (x : Settings). EachSeat (λ stream place. end_of stream - place ≤ x.limits.queue_size) (changed w (outcome w event).change))
      (sym (settings_stay w order event)) (each_after (λ stream place. end_of stream - place ≤ queue) w order holds_near all event)

  module _ (rise : Each HasRisingStarts w.station.live) where
    found_rises : (mount : List ℕ) (session : Session) → session_of w.station.live mount ≡ Some session → HasRisingStarts session
    found_rises mount session e = found_has (is_of mount) HasRisingStarts w.station.live session rise e

    holds_kept : HoldsOn (λ stream place. kept_from queue stream ≤ place) w
    holds_kept = record {
      at_none = λ place. omega arith;
      at_end = λ mount session live. kept_within queue session.stream (found_rises mount session live);
      at_burst = λ mount session burst live short. burst_is_kept queue burst session.stream short (found_rises mount session live);
      further = λ stream place more h. omega (arith, h);
      longer = λ mount block session place live h near. kept_still queue session.stream block (found_rises mount session live) place h near;
    }

    pub kept_on : AreByNumber w.seats → SeatsAreKept w → (event : Event) → SeatsAreKept (changed w (outcome w event).change)
    kept_on order all event =
        subst (λ (x : Settings). EachSeat (λ stream place. kept_from x.limits.queue_size stream ≤ place) (changed w (outcome w event).change))
        (sym (settings_stay w order event)) (each_after (λ stream place. kept_from queue stream ≤ place) w order holds_kept all event)

    -- where a seat is, the core has the stream from its place on
    pub seat_is_kept : SeatsAreKept w → (id : ℕ) (seat : Seat) (session : Session) → seat_of w.seats id ≡ Some seat
        → session_of (kept_live queue w.station.live) seat.mount ≡ Some session → first_start (end_of session.stream) session.stream.starts ≤ seat.place
    seat_is_kept all id seat session has live = by_found (session_of w.station.live seat.mount) refl (sym (kept_found queue w.station.live seat.mount) ∙ live) where
      by_found : (found : Option Session) → session_of w.station.live seat.mount ≡ found
          → option_map (kept_session queue) (session_of w.station.live seat.mount) ≡ Some session
          → first_start (end_of session.stream) session.stream.starts ≤ seat.place
      by_found None none is =
          let nothing : option_map (kept_session queue) (session_of w.station.live seat.mount) ≡ None = ap (option_map (kept_session queue)) none in cc
      by_found (Some whole) found is =
          let both : Some (kept_session queue whole) ≡ Some session = sym (ap (option_map (kept_session queue)) found) ∙ is in
          let one : kept_session queue whole ≡ session = cc in
          let same_end = kept_end queue whole.stream (found_rises seat.mount whole found) in
          let here : first_start (end_of (kept_session queue whole).stream) (kept_session queue whole).stream.starts ≡ kept_from queue whole.stream
          = ap (λ (n : ℕ). first_start n (kept_session queue whole).stream.starts) same_end in
          let kept : kept_from queue whole.stream ≤ seat.place = all id seat whole has found in
          subst (λ (x : Session). first_start (end_of x.stream) x.stream.starts ≤ seat.place) one (omega (arith, here, kept))

near_after_all : (w : World) → IsSound w → NobodyLags w → (events : List Event) → NobodyLags (world_after_all w events)
near_after_all w s all [] = all
near_after_all w s all (event ∷ events) = near_after_all (world_after w event) (sound_after w s event) (near_still w s.by_number all event) events

pub near_run : (settings : Settings) (lists : Lists) (events : List Event) → NobodyLags (run_after settings lists events)
near_run settings lists events =
    near_after_all (opening settings lists) (sound_opening settings lists) (λ id seat session e f. cc) events
