-- a part's step is the state's
use Rattle.std.proofs.Common.{◌≡◌, Bool, true, false, ℕ, ◌==◌, Option, Some, None, List, refl, ap, sym, subst, ◌∙◌}
use Rattle.radio_laws.proofs.Words.{if◌then◌else◌, not, option_map, option_map_or, option_or, eqb-true, bytes_eq-Decides, Lagged, Verdict, Allow, verdict_in, Listener, Seat, Seating, Finished, seat_in, seat_held}
use Rattle.radio_laws.proofs.Words.{seat_of, listener_of, with_place, with_ended, finished_if, ended_if, lost_by, beside_moved, has_heard, have_ended, Part, end_in, part_received, part_titled, Session, session_of}
use Rattle.radio_laws.proofs.Words.{longer, with_title, lags_behind, Push, Title, Draw, Noted, Stray, Standing, Feeds, rows_to_push, heard_at, silence_of, World, standing_of, Nothing, Receive, SetTitle, Advance, changed}
use Rattle.radio_laws.proofs.Words.{is_taken_in, is_on_air, Outcome, hands_out, as_heard, part_draws, says, if_sitting, if_feeding, on_verdict, takes_in, IsSound, outcome, reply_to, world_after, hands_out_at, draws_so}
use Rattle.radio_laws.proofs.Words.{seat_if, is_at, seat_at, IsPartOf, part_with_place, is_mount_of, IsPartsStep, DrawsByItsPart}
use Rattle.radio_policy.specs.declared.judgement.Verdict.TheVariants.{Deny as Denied}
use Rattle.radio_seats_rows.specs.declared.seat.Seating.TheVariants.{Sits as HasSeat}
use Rattle.radio_parts_mount.proofs.PartLemmas.{found_changed}
use Rattle.radio_parts_station.specs.declared.standing.Standing.TheVariants.{Sits as IsSitting}
use Rattle.radio_laws.proofs.Locality.LeftAlone.{left_alone}

-- the listeners that keep their seats, when those lose theirs of which p holds
module _ (p : Seat → Bool) where
  others_keep : (seats : List Listener) (id : ℕ) → seat_of (with_ended seats p Lagged) id ≡ seat_if (λ seat. not (p seat)) (seat_of seats id)
  others_keep seats id = ap seat_in (have_ended p Lagged seats id) ∙ by_listener (listener_of seats id) where
    by_test : (seat : Seat) (b : Bool) → seat_held (if b then lost_by Lagged (HasSeat seat) else HasSeat seat) ≡ (if not b then Some seat else None)
    by_test seat true = refl
    by_test seat false = refl

    by_seating : (seating : Seating) → seat_held (ended_if p Lagged seating) ≡ seat_if (λ seat. not (p seat)) (seat_held seating)
    by_seating (HasSeat seat) = by_test seat (p seat)
    by_seating (Finished rule mount) = refl

    by_listener : (found : Option Listener) → seat_in (option_map (finished_if p Lagged) found) ≡ seat_if (λ seat. not (p seat)) (seat_in found)
    by_listener None = refl
    by_listener (Some listener) = by_seating listener.seating

-- two tests of a seat, in either order
in_turn : (p q : Seat → Bool) (found : Option Seat) → seat_if p (seat_if q found) ≡ seat_if q (seat_if p found)
in_turn p q None = refl
in_turn p q (Some seat) = picked p (q seat) ∙ swapped (q seat) (p seat) ∙ sym (picked q (p seat)) where
  picked : (test : Seat → Bool) (b : Bool) → seat_if test (if b then Some seat else None) ≡ (if b then (if test seat then Some seat else None) else None)
  picked test true = refl
  picked test false = refl

  swapped : (a b : Bool) → (if a then (if b then Some seat else None) else None) ≡ (if b then (if a then Some seat else None) else None)
  swapped true true = refl
  swapped true false = refl
  swapped false true = refl
  swapped false false = refl

-- the listeners at the mount that keep up
pub those_kept : (mount : List ℕ) (p : Seat → Bool) (listeners : List Listener) (id : ℕ)
    → seat_at mount (with_ended listeners p Lagged) id ≡ seat_if (λ seat. not (p seat)) (seat_at mount listeners id)
those_kept mount p listeners id =
    ap (seat_if (is_at mount)) (others_keep p listeners id) ∙ in_turn (is_at mount) (λ seat. not (p seat)) (seat_of listeners id)

-- a listener at the mount has that seat
pub sits_there : (mount : List ℕ) (listeners : List Listener) (id : ℕ) (seat : Seat) → seat_at mount listeners id ≡ Some seat
    → (seat_of listeners id ≡ Some seat) × (is_at mount seat ≡ true)
sits_there mount listeners id seat has = by_seat (seat_of listeners id) refl has where
  by_mount : (other : Seat) → seat_of listeners id ≡ Some other → (b : Bool) → is_at mount other ≡ b → (if b then Some other else None) ≡ Some seat
      → (seat_of listeners id ≡ Some seat) × (is_at mount seat ≡ true)
  by_mount other e true at same = let one : other ≡ seat = cc in (e ∙ same, ap (is_at mount) (sym one) ∙ at)
  by_mount other e false at same = cc

  by_seat : (found : Option Seat) → seat_of listeners id ≡ found → seat_if (is_at mount) found ≡ Some seat
      → (seat_of listeners id ≡ Some seat) × (is_at mount seat ≡ true)
  by_seat None e none = cc
  by_seat (Some other) e some = by_mount other e (is_at mount other) refl some

module _ (w : World) (s : IsSound w) (p : Part) (of : IsPartOf w p) where
  -- a draw
  module _ (id room : ℕ) (seat : Seat) (has : seat_at p.mount p.listeners id ≡ Some seat) where
    in_part : (seat_of p.listeners id ≡ Some seat) × (is_at p.mount seat ≡ true)
    in_part = sits_there p.mount p.listeners id seat has

    in_state : (seat_of w.seats id ≡ Some seat) × (is_at p.mount seat ≡ true)
    in_state = sits_there p.mount w.seats id seat (sym (of.seats id) ∙ has)

    heard : heard_at w.station seat.mount ≡ (as_heard w.station p).session
    heard = ap (heard_at w.station) ((bytes_eq-Decides seat.mount p.mount).0 in_state.1)
        ∙ ap (λ (found : Option Session). option_or found (silence_of w.station p.mount)) of.live

    handed : outcome w (Draw id room) ≡ part_draws (as_heard w.station p) id room
    unfolding outcome
    handed =
        let session = (as_heard w.station p).session in
        draws_so w id room
        ∙ ap (λ (standing : Standing). if_sitting standing (hands_out_at w.station id room (seat_of w.seats id))) (s.sitting id seat in_state.0)
        ∙ ap (hands_out_at w.station id room) in_state.0 ∙ ap (hands_out id seat room) heard
        ∙ sym (ap (λ (found : Option Seat). option_map_or (λ his. hands_out id his room session) found (says Stray Nothing)) in_part.0)

    seat_heard : (place other : ℕ) → seat_at p.mount (with_place p.listeners id place) other ≡ seat_at p.mount (with_place w.seats id place) other
    seat_heard place other = by_number (id == other) refl where
      beside : (listeners : List Listener) → (id == other) ≡ false → seat_at p.mount (with_place listeners id place) other ≡ seat_at p.mount listeners other
      beside listeners e = ap (λ (found : Option Listener). seat_if (is_at p.mount) (seat_in found)) (beside_moved listeners id other e place)

      by_number : (b : Bool) → (id == other) ≡ b
          → seat_at p.mount (with_place p.listeners id place) other ≡ seat_at p.mount (with_place w.seats id place) other
      by_number true e =
          subst (λ (n : ℕ). seat_at p.mount (with_place p.listeners id place) n ≡ seat_at p.mount (with_place w.seats id place) n) (eqb-true id other e)
          (ap (seat_if (is_at p.mount)) (has_heard p.listeners id place seat in_part.0 ∙ sym (has_heard w.seats id place seat in_state.0)))
      by_number false e = beside p.listeners e ∙ of.seats other ∙ sym (beside w.seats e)

    pub parts_draw : DrawsByItsPart w p id room
    unfolding world_after
    parts_draw = record {
      by_part = handed;
      step = λ place change.
          let after : world_after w (Draw id room) ≡ changed w (Advance id place) = ap (changed w) (ap (λ (o : Outcome). o.change) handed ∙ change) in
          record {
            here = subst (λ (later : World). IsPartOf later (part_with_place p id place)) (sym after) (record { live = of.live; seats = seat_heard place });
            there = left_alone (is_mount_of p) w s (Draw id room) tt within;
          };
    } where
      within : (him : ℕ) (his : Seat) → Some id ≡ Some him → seat_of w.seats him ≡ Some his → is_mount_of p his.mount ≡ true
      within him his is has =
          let one : id ≡ him = cc in
          let found : seat_of w.seats id ≡ Some his = ap (seat_of w.seats) one ∙ has in
          let both : Some seat ≡ Some his = sym in_state.0 ∙ found in let same : seat ≡ his = cc in ap (is_at p.mount) (sym same) ∙ in_state.1

  -- a block
  module _ (block : List ℕ) where
    abbrev queue : ℕ
    queue = w.station.settings.limits.queue_size

    abbrev longer_now : Option Session → Option Session
    longer_now session = option_map (longer block w.station.time) session

    abbrev in_state_at : ℕ → ℕ → Option Seat
    in_state_at end id = seat_at p.mount (with_ended w.seats (lags_behind p.mount end queue) Lagged) id

    kept : (end id : ℕ) → seat_at p.mount (with_ended p.listeners (lags_behind p.mount end queue) Lagged) id ≡ in_state_at end id
    kept end id =
        those_kept p.mount (lags_behind p.mount end queue) p.listeners id
        ∙ ap (seat_if (λ seat. not (lags_behind p.mount end queue seat))) (of.seats id)
        ∙ sym (those_kept p.mount (lags_behind p.mount end queue) w.seats id)

    received : IsPartOf (changed w (Receive p.mount block)) (part_received queue w.station.time block p)
    received = record {
      live = ap (λ (later : World). session_of later.station.live p.mount) (is_taken_in w p.mount block)
          ∙ found_changed w.station.live p.mount (longer block w.station.time) (λ x. refl) ∙ ap longer_now of.live;
      seats = λ id. kept (end_in (longer_now p.session)) id
          ∙ ap (λ (found : Option Session). in_state_at (end_in (longer_now found)) id) (sym of.live);
    }

  -- a title
  on_the_air : (text : List ℕ) → IsPartOf (changed w (SetTitle p.mount text)) (part_titled text p)
  on_the_air text = record {
    live = ap (λ (later : World). session_of later.station.live p.mount) (is_on_air w p.mount text)
        ∙ found_changed w.station.live p.mount (with_title (Some text)) (λ x. refl) ∙ ap (option_map (with_title (Some text))) of.live;
    seats = of.seats;
  }

  module _ (session : Session) (has : p.session ≡ Some session) where
    -- its source feeds it
    feeding : standing_of w session.number ≡ Feeds p.mount
    feeding = s.fed p.mount session (of.live ∙ has)

    fed_within : (mount : List ℕ) → standing_of w session.number ≡ Feeds mount → is_mount_of p mount ≡ true
    fed_within mount feeds =
        let both : Feeds p.mount ≡ Feeds mount = sym feeding ∙ feeds in
        let same : p.mount ≡ mount = cc in
        (bytes_eq-Decides mount p.mount).1 (sym same)

    -- and has no seat
    nobody_sits : (him : ℕ) (his : Seat) → Some session.number ≡ Some him → seat_of w.seats him ≡ Some his → is_mount_of p his.mount ≡ true
    nobody_sits him his is has =
        let one : session.number ≡ him = cc in
        let clash : Feeds p.mount ≡ IsSitting = sym feeding ∙ ap (standing_of w) one ∙ s.sitting him his has in
        cc

    -- what the policy says to its block
    pub judged : (block : List ℕ) → outcome w (Push session.number block) ≡ on_verdict (verdict_in (rows_to_push w.station p.mount block)) Nothing (takes_in p.mount block)
    unfolding outcome
    judged block = ap (λ (standing : Standing).
        if_feeding standing (λ mount. on_verdict (verdict_in (rows_to_push w.station mount block)) Nothing (takes_in mount block))) feeding

    -- and its title is noted
    pub noted_title : (text : List ℕ) → outcome w (Title session.number text) ≡ says Noted (SetTitle p.mount text)
    unfolding outcome
    noted_title text = ap (λ (standing : Standing). if_feeding standing (λ mount. says Noted (SetTitle mount text))) feeding

    pub parts_receive : (block : List ℕ) → reply_to w (Push session.number block) ≡ Noted
        → IsPartsStep w (world_after w (Push session.number block)) p (part_received w.station.settings.limits.queue_size w.station.time block p)
    unfolding outcome reply_to world_after
    parts_receive block noted = by_verdict (verdict_in (rows_to_push w.station p.mount block)) refl where
      by_verdict : (verdict : Verdict) → verdict_in (rows_to_push w.station p.mount block) ≡ verdict
          → IsPartsStep w (world_after w (Push session.number block)) p (part_received w.station.settings.limits.queue_size w.station.time block p)
      by_verdict Allow e =
          let taken : outcome w (Push session.number block) ≡ takes_in p.mount block
          = judged block ∙ ap (λ (verdict : Verdict). on_verdict verdict Nothing (takes_in p.mount block)) e in
          record {
            here = subst (λ (later : World). IsPartOf later (part_received w.station.settings.limits.queue_size w.station.time block p))
                (sym (ap (λ (o : Outcome). changed w o.change) taken)) (received block);
            there = left_alone (is_mount_of p) w s (Push session.number block) fed_within nobody_sits;
          }
      by_verdict (Denied rule) e =
          let denied : outcome w (Push session.number block) ≡ on_verdict (Denied rule) Nothing (takes_in p.mount block)
          = judged block ∙ ap (λ (verdict : Verdict). on_verdict verdict Nothing (takes_in p.mount block)) e in
          let other : reply_to w (Push session.number block) ≡ (on_verdict (Denied rule) Nothing (takes_in p.mount block)).reply
          = ap (λ (o : Outcome). o.reply) denied in
          cc

    pub parts_titled : (text : List ℕ) → IsPartsStep w (world_after w (Title session.number text)) p (part_titled text p)
    unfolding world_after
    parts_titled text = record {
      here = subst (λ (later : World). IsPartOf later (part_titled text p)) (sym after) (on_the_air text);
      there = left_alone (is_mount_of p) w s (Title session.number text) fed_within nobody_sits;
    } where
      after : world_after w (Title session.number text) ≡ changed w (SetTitle p.mount text)
      after = ap (λ (o : Outcome). changed w o.change) (noted_title text)
