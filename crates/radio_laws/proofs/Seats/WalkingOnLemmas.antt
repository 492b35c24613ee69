-- what a move makes of each listener
use Rattle.std.proofs.Common.{◌≡◌, inl, inr, ◌+◌, Bool, true, ℕ, Option, Some, None, is_some, List, [], ◌∷◌, refl, ap, sym, subst, ◌∙◌}
use Rattle.radio_laws.proofs.Words.{fold, if◌then◌else◌, bytes_eq-Decides, Rule, Verdict, Allow, verdict_in, Peer, options_for, by_number, Move, Ended, Up, Stays, GoesTo, IsOut, seat_at_end, Faring, HasStayed, HasGone}
use Rattle.radio_laws.proofs.Words.{HasLost, fares, nobody_stays, Seat, listener_of, seat_in, seat_of, AreByNumber, beside_left, Event, Source, SourceEnd, Command, RelayUp, Clock, CommandRequest, Shown, Closes, OfClient}
use Rattle.radio_laws.proofs.Words.{OfRelay, SourceRequest, Noted, Stray, Nothing, Answer, End, EndAndLeave, Outcome, Standing, Undecided, Feeds, changed, carried_along, called_home, session_over, session_ended}
use Rattle.radio_laws.proofs.Words.{before_silence, session_silenced, sight_of, rows_to_feed, rows_to_raise, live_end, Brings, ByItsEnd, ByItsLeaving, BySilence, ByComingUp, ByRelayUp, ByKilling, ByMoving, his_turn}
use Rattle.radio_laws.proofs.Words.{says, if_feeding, unless_relayed, if_undecided, on_verdict, leaves_from, goes_down_from, raises, Session, IsSound, begins, outcome, world_after, end_of, World, standing_of, has_relay}
use Rattle.radio_laws.proofs.Words.{is_cut, named, order_carried, sound_sat_out, heard_at, is_on_demand, heard_end, heard_number, SittersAreLetIn, lets_in, HadASeat, had_seats, had_seat, TimeOver, has_sat_out}
use Rattle.radio_core.proofs.Clients.ClosingLemmas.{closes_his}
use Rattle.radio_seats_rows.specs.declared.seat.Seating.TheVariants.{Finished as HasFinished}
use Rattle.radio_laws.specs.WalkingOn.{FaresByHisTurn, ListenersWalkOn, MovesAreWhole}
use Rattle.radio_laws.proofs.Commands.CommandSteps.{later_so}
use Rattle.radio_laws.proofs.Seats.HeardLaws.{heard_on_demand, order_given}
use Rattle.radio_laws.proofs.Seats.LimitLemmas.{Within, other_station, within_silence, within_sat_out}
use Rattle.radio_laws.proofs.Seats.StayingOn.{stays_on}

found_there : {A : Type 0} (found : Option A) → is_some found ≡ true → (x : A) × (found ≡ Some x)
found_there None e = cc
found_there (Some x) e = (x, refl)

-- the limits hold, and no listener sits at a mount that does not let it in
abbrev AreInPlace : World → Type 0
AreInPlace w = Within w × SittersAreLetIn w

-- at a mount that a relay feeds on demand, a listener goes on when its session ends
waits_on : (before : World) (mount : List ℕ) → AreByNumber before.seats → AreInPlace before → (id : ℕ) (seat : Seat) → seat_of before.seats id ≡ Some seat
    → seat.mount ≡ mount → is_on_demand before.station.settings mount ≡ true → his_turn before (Ended mount) id ≡ GoesTo mount
waits_on before mount order place id seat has there on_demand =
    stays_on (sight_of before.station) mount before.seats order id seat has there (heard_on_demand before.station mount on_demand)
    (λ most limit. place.0.not_too_many mount most limit)
    (λ off user one other mine yours. place.0.none_twice mount user one other off mine yours)
    (ap (λ (m : List ℕ). lets_in before.station.lists m seat.pair) (sym there) ∙ place.1 id seat has)

module _ (before : World) (move : Move) (order : AreByNumber before.seats) (place : (mount : List ℕ) → move ≡ Ended mount → AreInPlace before) (id : ℕ)
    (seat : Seat) (has : seat_of before.seats id ≡ Some seat) where
  abbrev FaringHere : Type 0
  FaringHere = Faring (sight_of before.station) move before.seats id

  his_fare : FaringHere
  his_fare = fares (sight_of before.station) move before.seats order id

  goes_by : FaringHere → (mount : List ℕ) → his_turn before move id ≡ GoesTo mount → (session : Session) × (heard_at before.station mount ≡ Some session)
      × (seat_of (carried_along before move).seats id ≡ Some (record seat { mount = mount; session = session.number; place = end_of session.stream }))
  goes_by (HasStayed same turn) mount e = let both : GoesTo mount ≡ Stays = sym e ∙ turn seat has in cc
  goes_by (HasGone old to turn had concerned fits now) mount e =
      let both : GoesTo to ≡ GoesTo mount = sym turn ∙ e in
      let there : to ≡ mount = cc in
      let held : Some old ≡ Some seat = sym had ∙ has in
      let one : old ≡ seat = cc in
      let found = found_there (heard_at before.station to) fits.is_live in (
        found.0,
        ap (heard_at before.station) (sym there) ∙ found.1,
        ap seat_in now
            ∙ ap (λ (x : Seat). Some (seat_at_end (sight_of before.station) to x)) one
            ∙ ap (λ (n : ℕ). Some (record seat { mount = to; session = n; place = live_end before.station to })) (heard_number before.station to found.0 found.1)
            ∙ ap (λ (n : ℕ). Some (record seat { mount = to; session = found.0.number; place = n })) (heard_end before.station to found.0 found.1)
            ∙ ap (λ (m : List ℕ). Some (record seat { mount = m; session = found.0.number; place = end_of found.0.stream })) there,
      )
  goes_by (HasLost old rule turn had concerned now) mount e = let both : GoesTo mount ≡ IsOut rule = sym e ∙ turn in cc

  out_by : FaringHere → (rule : Rule) → his_turn before move id ≡ IsOut rule
      → listener_of (carried_along before move).seats id ≡ Some (record { id = id; seating = HasFinished rule seat.mount })
  out_by (HasStayed same turn) rule e = let both : IsOut rule ≡ Stays = sym e ∙ turn seat has in cc
  out_by (HasGone old to turn had concerned fits now) rule e = let both : IsOut rule ≡ GoesTo to = sym e ∙ turn in cc
  out_by (HasLost old by turn had concerned now) rule e =
      let both : IsOut by ≡ IsOut rule = sym turn ∙ e in
      let one : by ≡ rule = cc in
      let held : Some old ≡ Some seat = sym had ∙ has in
      let his : old ≡ seat = cc in
      now
      ∙ ap (λ (r : Rule). Some (record { id = id; seating = HasFinished r old.mount })) one
      ∙ ap (λ (s : Seat). Some (record { id = id; seating = HasFinished rule s.mount })) his

  stays_by : FaringHere → his_turn before move id ≡ Stays → seat_of (carried_along before move).seats id ≡ Some seat
  stays_by (HasStayed same turn) e = ap seat_in same ∙ has
  stays_by (HasGone old to turn had concerned fits now) e = let both : Stays ≡ GoesTo to = sym e ∙ turn in cc
  stays_by (HasLost old rule turn had concerned now) e = let both : Stays ≡ IsOut rule = sym e ∙ turn in cc

  fares_by_turn : FaresByHisTurn before move id seat
  fares_by_turn = record {
    goes = goes_by his_fare;
    is_out = out_by his_fare;
    stays = stays_by his_fare;
    leaves = λ mount same there e.
        nobody_stays (sight_of before.station) mount before.seats id seat has ((bytes_eq-Decides seat.mount mount).1 there)
        (subst (λ (m : Move). his_turn before m id ≡ Stays) same e);
    waits = λ mount same there on_demand.
        ap (λ (m : Move). his_turn before m id) same ∙ waits_on before mount order (place mount same) id seat has there on_demand;
  }

-- a move leaves no listener at a mount that does not let it in
let_in_ended : (w : World) (mount : List ℕ) → SittersAreLetIn w → SittersAreLetIn (session_ended w mount)
let_in_ended w mount all id seat has =
    by_way (had_seats (sight_of (session_over w mount).station) (Ended mount) w.seats id seat has) where
      by_way : HadASeat (sight_of (session_over w mount).station) w.seats id seat → lets_in w.station.lists seat.mount seat.pair ≡ true
      by_way (old, had, inl same) = ap (λ (x : Seat). lets_in w.station.lists x.mount x.pair) same ∙ all id old had
      by_way (old, had, inr (to, carried)) =
          ap (λ (x : Seat). lets_in w.station.lists x.mount x.pair) carried.at_its_end ∙ carried.is_let_in

let_in_silenced : (sessions : List Session) (w : World) → SittersAreLetIn w → SittersAreLetIn (fold session_silenced w sessions)
let_in_silenced [] w all = all
let_in_silenced (session ∷ sessions) w all = let_in_silenced sessions (session_silenced w session) (let_in_ended w session.mount all)

module _ (w : World) (s : IsSound w) where
  pub order_silenced : (sessions : List Session) (before : World) → AreByNumber before.seats → AreByNumber (fold session_silenced before sessions).seats
  order_silenced [] before order = order
  order_silenced (session ∷ sessions) before order =
      order_silenced sessions (session_silenced before session) (order_carried (session_over before session.mount) (Ended session.mount) order)

  walk_on_by : (event : Event) (move : Move) (before : World) → Brings w event move before → AreByNumber before.seats
  walk_on_by event move before (ByItsEnd him mount feeding no_relay) = s.by_number
  walk_on_by event move before (ByItsLeaving _ him mount closes feeding) = s.by_number
  walk_on_by event move before (BySilence ms silent others session all) =
      order_silenced silent (before_silence w ms) (sound_sat_out w s ms).by_number
  walk_on_by event move before (ByComingUp asked peer stood allowed calls) = order_given asked.mount asked.id w.seats s.by_number
  walk_on_by event move before (ByRelayUp mount shown allowed calls) = order_given mount (w.station.last_id + 1) w.seats s.by_number
  walk_on_by event move before (ByKilling _ mount c) = s.by_number
  walk_on_by event move before (ByMoving _ mount destination c) = s.by_number

  module _ (l : Within w) (let_in : SittersAreLetIn w) where
    -- before the moves that come of the end of a session
    in_place : (event : Event) (move : Move) (before : World) → Brings w event move before → (mount : List ℕ) → move ≡ Ended mount → AreInPlace before
    in_place event move before (ByItsEnd him at feeding no_relay) mount e = (other_station w (session_over w at) refl refl l, let_in)
    in_place event move before (ByItsLeaving _ him at closes feeding) mount e = (other_station w (session_over w at) refl refl l, let_in)
    in_place event move before (ByKilling _ at c) mount e = (other_station w (session_over w at) refl refl l, let_in)
    in_place event move before (BySilence ms silent others session all) mount e =
        let during = fold session_silenced (before_silence w ms) silent in (
          other_station during (session_over during session.mount) refl refl
              (within_silence silent (before_silence w ms) (sound_sat_out w s ms).by_number (within_sat_out w s l ms)),
          let_in_silenced silent (before_silence w ms)
              (λ id seat has. let_in id seat (had_seat (has_sat_out w.station.settings ms) TimeOver w.seats id seat has)),
        )
    in_place event move before (ByComingUp asked peer stood allowed calls) mount e = cc
    in_place event move before (ByRelayUp at shown allowed calls) mount e = cc
    in_place event move before (ByMoving _ at destination c) mount e = cc

    pub walk_on : (event : Event) → ListenersWalkOn w event
    walk_on event move before brings id seat has =
        fares_by_turn before move (walk_on_by event move before brings) (in_place event move before brings) id seat has

-- the whole of what becomes of the seats
module _ (w : World) where
  feeds_so : {A : Type 0} (now : Standing) (mount : List ℕ) (go : List ℕ → Outcome) (look : Outcome → A) → now ≡ Feeds mount
      → look (if_feeding now go) ≡ look (go mount)
  feeds_so now mount go look e = rw e refl

  asks_so : (now : Standing) (peer : Peer) (verdict : Verdict) (asked : SourceRequest) → now ≡ Undecided peer → verdict ≡ Allow
      → if_undecided now (λ p. on_verdict verdict (Answer asked.id) (begins w.station asked)) ≡ begins w.station asked
  asks_so now peer verdict asked e v = rw (e, v) refl

  calls_so : (before : World) (mount : List ℕ) → (options_for before.station.settings mount).listeners.fallback_override ≡ true
      → called_home before mount ≡ carried_along before (Up mount)
  calls_so before mount e = rw e refl

  closes_no_source : (asked : SourceRequest) (event : Event) (him : ℕ) → event ≡ Source asked → Closes w him event → ⊥
  closes_no_source asked event him e (OfClient no_relay) = cc
  closes_no_source asked event him e (OfRelay relay) = cc

  closes_no_end : (end : ℕ) (event : Event) (him : ℕ) → event ≡ SourceEnd end → Closes w him event → ⊥
  closes_no_end end event him e (OfClient no_relay) = cc
  closes_no_end end event him e (OfRelay relay) = cc

  closes_no_rise : (at : List ℕ) (sees : Shown) (event : Event) (him : ℕ) → event ≡ RelayUp at sees → Closes w him event → ⊥
  closes_no_rise at sees event him e (OfClient no_relay) = cc
  closes_no_rise at sees event him e (OfRelay relay) = cc

  pub closes_no_clock : (ms : ℕ) (event : Event) (him : ℕ) → event ≡ Clock ms → Closes w him event → ⊥
  closes_no_clock ms event him e (OfClient no_relay) = cc
  closes_no_clock ms event him e (OfRelay relay) = cc

  closes_no_command : (asked : CommandRequest) (event : Event) (him : ℕ) → event ≡ Command asked → Closes w him event → ⊥
  closes_no_command asked event him e (OfClient no_relay) = cc
  closes_no_command asked event him e (OfRelay relay) = cc

  raises_so : (verdict : Verdict) (up : Outcome) → verdict ≡ Allow → on_verdict verdict Nothing up ≡ up
  raises_so verdict up v = rw v refl

  rising : (at : List ℕ) (sees : Shown) (event : Event) (move : Move) (before : World) → event ≡ RelayUp at sees → Brings w event move before
      → (world_after w event).seats ≡ (carried_along before move).seats
  unfolding world_after outcome
  rising at sees event move before e (ByRelayUp mount shown allowed calls) =
      ap (λ (o : Outcome). (changed w o.change).seats) (raises_so (verdict_in (rows_to_raise w.station mount shown)) (raises w.station mount shown) allowed)
      ∙ ap (λ (x : World). x.seats) (calls_so before mount calls)
  rising at sees event move before e (ByComingUp asked peer stood allowed calls) = cc
  rising at sees event move before e (ByItsEnd him mount feeding no_relay) = cc
  rising at sees event move before e (ByItsLeaving _ him mount closes feeding) = absurd (closes_no_rise at sees event him e closes)
  rising at sees event move before e (BySilence ms during session way found) = cc
  rising at sees event move before e (ByKilling _ mount c) = let other = c.is_event in cc
  rising at sees event move before e (ByMoving _ mount destination c) = let other = c.is_event in cc

  coming : (asked : SourceRequest) (event : Event) (move : Move) (before : World) → event ≡ Source asked → Brings w event move before
      → (world_after w event).seats ≡ (carried_along before move).seats
  unfolding world_after outcome
  coming asked event move before e (ByComingUp other peer stood allowed calls) =
      ap (λ (o : Outcome). (changed w o.change).seats) (asks_so (standing_of w other.id) peer (verdict_in (rows_to_feed w.station other)) other stood allowed)
      ∙ ap (λ (x : World). x.seats) (calls_so before other.mount calls)
  coming asked event move before e (ByItsEnd him mount feeding no_relay) = cc
  coming asked event move before e (ByItsLeaving _ him mount closes feeding) = absurd (closes_no_source asked event him e closes)
  coming asked event move before e (ByRelayUp mount shown allowed calls) = cc
  coming asked event move before e (BySilence ms during session way found) = cc
  coming asked event move before e (ByKilling _ mount c) = let other = c.is_event in cc
  coming asked event move before e (ByMoving _ mount destination c) = let other = c.is_event in cc

  ending : (him : ℕ) (event : Event) (move : Move) (before : World) → event ≡ SourceEnd him → Brings w event move before
      → (world_after w event).seats ≡ (carried_along before move).seats
  unfolding world_after outcome
  ending him event move before e (ByItsEnd he mount feeding no_relay) =
      feeds_so (standing_of w he) mount (λ m. unless_relayed (has_relay w he) (says Noted (End he m))) (λ (o : Outcome). (changed w o.change).seats) feeding
      ∙ ap (λ (b : Bool). (changed w (unless_relayed b (says Noted (End he mount))).change).seats) no_relay
  ending him event move before e (ByItsLeaving _ he mount closes feeding) = absurd (closes_no_end him event he e closes)
  ending him event move before e (ByRelayUp mount shown allowed calls) = cc
  ending him event move before e (BySilence ms during session way found) = cc
  ending him event move before e (ByKilling _ mount c) = let other = c.is_event in cc
  ending him event move before e (ByMoving _ mount destination c) = let other = c.is_event in cc
  ending him event move before e (ByComingUp asked peer stood allowed calls) = cc

  -- a client that feeds leaves when its connection is closed
  goes_so : (he : ℕ) (mount : List ℕ) (event : Event) → Closes w he event → standing_of w he ≡ Feeds mount → outcome w event ≡ says Noted (EndAndLeave he mount)
  unfolding outcome
  goes_so he mount event (OfClient no_relay) feeding =
      ap (λ (b : Bool). unless_relayed b (leaves_from he (standing_of w he))) no_relay ∙ ap (leaves_from he) feeding
  goes_so he mount event (OfRelay relay) feeding =
      ap (λ (b : Bool). if b then goes_down_from he (standing_of w he) else says Stray Nothing) relay ∙ ap (goes_down_from he) feeding

  -- and whose connection is closed is one
  closes_one : (him he : ℕ) (event : Event) → Closes w him event → Closes w he event → he ≡ him
  closes_one him he event closes others =
      let both : Some he ≡ Some him = sym (closes_his w he event others) ∙ closes_his w him event closes in cc

  leaving : (him : ℕ) (event : Event) (move : Move) (before : World) → Closes w him event → Brings w event move before → (id : ℕ) → (him ≡ id → ⊥)
      → listener_of (world_after w event).seats id ≡ listener_of (carried_along before move).seats id
  unfolding world_after
  leaving him event move before closes (ByItsLeaving _ he mount others feeding) id apart =
      let same : he ≡ him = closes_one him he event closes others in
      ap (λ (o : Outcome). listener_of (changed w o.change).seats id) (goes_so he mount event others feeding)
      ∙ by_number he id (λ one. absurd (apart (sym same ∙ one))) (λ other. beside_left (carried_along (session_over w mount) (Ended mount)).seats he id other)
  leaving him event move before closes (ByItsEnd he mount feeding no_relay) id apart = absurd (closes_no_end he event him refl closes)
  leaving him event move before closes (BySilence ms during session way found) id apart = absurd (closes_no_clock ms event him refl closes)
  leaving him event move before closes (ByKilling _ mount c) id apart = absurd (closes_no_command c.asked event him c.is_event closes)
  leaving him event move before closes (ByMoving _ mount destination c) id apart = absurd (closes_no_command c.asked event him c.is_event closes)
  leaving him event move before closes (ByComingUp asked peer stood allowed calls) id apart = absurd (closes_no_source asked event him refl closes)
  leaving him event move before closes (ByRelayUp mount shown allowed calls) id apart = absurd (closes_no_rise mount shown event him refl closes)

  pub moves_are_whole : IsSound w → (event : Event) → MovesAreWhole w event
  moves_are_whole s event = record {
    at_a_move = λ mount destination c. ap (λ (x : World). x.seats) (later_so w event c);
    at_a_kill = λ mount c.
        ap (λ (x : World). x.seats) (later_so w event c ∙ is_cut w s event mount c)
        ∙ ap (λ (m : List ℕ). (carried_along (session_over w m) (Ended m)).seats) (named w s event mount c);
    at_its_coming = λ asked move before e brings. coming asked event move before e brings;
    at_a_relays_coming = λ mount shown move before e brings. rising mount shown event move before e brings;
    at_its_end = λ him move before e brings. ending him event move before e brings;
    at_its_leaving = λ him move before closes brings. leaving him event move before closes brings;
  }
