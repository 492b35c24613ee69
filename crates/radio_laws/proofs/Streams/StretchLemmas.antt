-- the law of stretches
use Rattle.std.proofs.Common.{◌≡◌, ◌⊎◌, inl, inr, true, false, Bool, ℕ, ◌+◌, ◌<◌, ◌≤◌, ◌==◌, Option, Some, None, List, [], ◌∷◌, ◌++◌}
use Rattle.std.proofs.Common.{length, refl, ap, sym, subst, ◌∙◌, arith, append_assoc, length-append}
use Rattle.radio_laws.proofs.Words.{if◌then◌else◌, concat, nat_tests, bytes_eq-Decides, bytes_eq, Peer, Settings, Lists, passes, by_number, Event, Push, Title, Receive, SetTitle, Outcome, Seat, Unknown, Undecided, Feeds}
use Rattle.radio_laws.proofs.Words.{World, opening, standing_of, changed, block_in, of_client, handed_at, handed, delivered_at, delivered, seat_of, Session, session_of, IsSound, outcome, world_after, WholeStream}
use Rattle.radio_laws.proofs.Words.{data_at, end_of, between, Sitting, sitting_of_seat, begun_sittings, sittings, AreStretches, StretchesAreWhole, IsSlice, AreSlices, Cut, cut_behind, cut_at_sittings, StretchesAreCut}
use Rattle.radio_laws.proofs.Words.{undecided_before, not_of, nothing_of, is_taken_in, moved_into, seats_step, Finishes, SeatStep, IsHanded, SitsDown, IsMoved, IsGiven, Rule, grown_cases, titled_cases, sound_after}
use Rattle.radio_laws.proofs.Words.{sound_opening, heard_cases, heard_at}
use Rattle.std.proofs.Math.Path.{fun_ext}
use Rattle.radio_laws.proofs.Streams.BroughtLemmas.{IsOldOrEmpty, IsOld, IsEmpty, Brought, BringsBlock, BringsTitle, ByCommand, BringsNothing, brought}
use Rattle.radio_laws.proofs.Ends.GoneLemmas.{his_own, with_nothing, last_rises}
use Rattle.radio_core.specs.SeatSteps.{Stays, Leaves as HeLeaves, IsEnded as HeIsEnded}
use Rattle.radio_laws.proofs.Commands.ObeyLemmas.{was_live_then}
use Rattle.radio_laws.proofs.Streams.SliceLemmas.{between_grown, between_drawn, between_joined, between_none, cut_joined, joined_slices}

-- a seat in the same session begins no sitting
begun_same : (old seat : Seat) (b : Bool) → (old.session == seat.session) ≡ b → b ≡ true → (if b then [] else sitting_of_seat seat ∷ []) ≡ []
begun_same old seat true e h = refl
begun_same old seat false e h = cc

begun_none : (old seat : Seat) → old.session ≡ seat.session → begun_sittings (Some old) (Some seat) ≡ []
begun_none old seat same = let itself : (old.session == seat.session) ≡ true =
    grind (arith, nat_tests) in begun_same old seat (old.session == seat.session) refl itself

-- the next data of a listener: a slice from the place of its seat, or nothing without a seat
abbrev IsNext : (ℕ → List ℕ) → Option Seat → List ℕ → Type 0
IsNext sent None bytes = bytes ≡ []
IsNext sent (Some seat) bytes = IsSlice sent (sitting_of_seat seat) bytes

abbrev IsCutSo : (ℕ → List ℕ) → Option Seat → List Sitting → Cut ℕ → Type 0
IsCutSo sent seat sittings cut = IsNext sent seat cut.before × AreSlices sent sittings cut.each

-- the data and the seats of an event are before those of later events. All that is sent in the end begins with what was sent so far
module _ (w : World) (s : IsSound w) (sent more : ℕ → List ℕ) (whole : (mount : List ℕ) (session : Session) → heard_at w.station mount ≡ Some session
    → session.stream.bytes ≡ sent session.number) where
  abbrev all : ℕ → List ℕ
  all n = sent n ++ more n

  nothing_first : (id : ℕ) (seat : Seat) → seat_of w.seats id ≡ Some seat → IsSlice all (sitting_of_seat seat) []
  nothing_first id seat has =
      let sits = s.seated id seat has in
      let same : sits.session.stream.bytes ≡ sent seat.session = whole seat.mount sits.session sits.is_heard ∙ ap sent sits.his_session in
      let size : end_of sits.session.stream ≡ length (sent seat.session) = ap length same in (
        seat.place,
        omega arith,
        omega (arith, sits.within, size, length-append (sent seat.session) (more seat.session)),
        sym (between_none seat.place (all seat.session)),
      )

  handed_first : (seat : Seat) (session : Session) (room : ℕ) → heard_at w.station seat.mount ≡ Some session → session.number ≡ seat.session
      → seat.place + length (data_at session.stream seat.place room) ≤ end_of session.stream → (bytes : List ℕ)
      → IsSlice all (sitting_of_seat (record seat { place = seat.place + length (data_at session.stream seat.place room) })) bytes
      → IsSlice all (sitting_of_seat seat) (data_at session.stream seat.place room ++ bytes)
  handed_first seat session room live number within bytes (stop, low, high, e) =
      let so_far = sent seat.session in
      let drawn = data_at session.stream seat.place room in
      let far : ℕ = seat.place + length drawn in
      let same : session.stream.bytes ≡ so_far = whole seat.mount session live ∙ ap sent number in
      let size : length session.stream.bytes ≡ length so_far = ap length same in
      let first : drawn ≡ between seat.place far (all seat.session) =
      between_drawn seat.place room session.stream.bytes
      ∙ ap (between seat.place far) same
      ∙ sym (between_grown seat.place far so_far (more seat.session) (omega arith) (omega (arith, within, size))) in (
        stop,
        omega (arith, low),
        high,
        ap (λ xs. xs ++ bytes) first ∙ ap (λ xs. between seat.place far (all seat.session) ++ xs) e
            ∙ between_joined seat.place far stop (all seat.session) (omega arith) low,
      )

  cut_step : (event : Event) (C : Rule → Type 0) (id : ℕ) (before later : Option Seat) (bytes : List ℕ) → SeatStep w C event id before bytes later
      → seat_of w.seats id ≡ before → (others : List Sitting) (cut : Cut ℕ) → IsCutSo all later others cut
      → IsCutSo all before (begun_sittings before later ++ others) (cut_behind bytes (begun_sittings before later) cut)
  cut_step event C id before later bytes (Stays None) has others cut h = h
  cut_step event C id before later bytes (Stays (Some seat)) has others cut h =
      subst (λ (begun : List Sitting). IsCutSo all (Some seat) (begun ++ others) (cut_behind [] begun cut)) (sym (begun_none seat seat refl)) h
  cut_step event C id before later bytes (IsHanded seat session room asked live number within) has others cut h =
      let far : Seat = record seat { place = seat.place + length (data_at session.stream seat.place room) } in
      subst (λ (begun : List Sitting). IsCutSo all (Some seat) (begun ++ others) (cut_behind (data_at session.stream seat.place room) begun cut))
      (sym (begun_none seat far refl)) (handed_first seat session room live number within cut.before h.0, h.1)
  cut_step event C id before later bytes (SitsDown asked peer session e his undecided lands live allowed) has others cut h = (refl, h)
  cut_step event C id before later bytes (IsMoved seat session takes why live opens apart) has others cut h =
      let new = moved_into session seat in
      let started : begun_sittings (Some seat) (Some new) ≡ sitting_of_seat new ∷ [] = ap (λ (b : Bool). if b then [] else sitting_of_seat new ∷ []) apart in
      subst (λ (begun : List Sitting). IsCutSo all (Some seat) (begun ++ others) (cut_behind [] begun cut)) (sym started) (nothing_first id seat has, h)
  cut_step event C id before later bytes (IsGiven seat session coming idle live empty waits start past_zero) has others cut h =
      let new : Seat = record seat { session = session.number } in
      let apart : (seat.session == session.number) ≡ false = ap (λ (n : ℕ). n == session.number) waits ∙ past_zero in
      let started : begun_sittings (Some seat) (Some new) ≡ sitting_of_seat new ∷ [] = ap (λ (b : Bool). if b then [] else sitting_of_seat new ∷ []) apart in
      subst (λ (begun : List Sitting). IsCutSo all (Some seat) (begun ++ others) (cut_behind [] begun cut)) (sym started) (nothing_first id seat has, h)
  cut_step event C id before later bytes (HeLeaves seat left) has others cut h =
      (subst (IsSlice all (sitting_of_seat seat)) (sym h.0) (nothing_first id seat has), h.1)
  cut_step event C id before later bytes (HeIsEnded seat rule cause) has others cut h =
      (subst (IsSlice all (sitting_of_seat seat)) (sym h.0) (nothing_first id seat has), h.1)

  -- if nothing happens any more
  nothing_next : (id : ℕ) (seat : Option Seat) → seat_of w.seats id ≡ seat → IsNext all seat []
  nothing_next id None has = refl
  nothing_next id (Some seat) has = nothing_first id seat has

-- what was sent so far is what the sessions have

record Sent (w : World) (sent : ℕ → List ℕ) : Type 0 where
  pub whole : (mount : List ℕ) (session : Session) → session_of w.station.live mount ≡ Some session → session.stream.bytes ≡ sent session.number
  -- nobody has the number 0
  pub by_nobody : sent 0 ≡ []
  pub none_yet : (id : ℕ) (peer : Peer) → standing_of w id ≡ Undecided peer → sent id ≡ []
  pub none_above : (id : ℕ) → w.station.last_id < id → sent id ≡ []

-- so is the session at a mount that waits for one: it is empty
whole_heard : (w : World) (sent : ℕ → List ℕ) → Sent w sent → (mount : List ℕ) (session : Session) → heard_at w.station mount ≡ Some session
    → session.stream.bytes ≡ sent session.number
whole_heard w sent h mount session hears =
    heard_cases w.station mount session hears (h.whole mount session)
    (λ none silent. subst (λ (x : Session). x.stream.bytes ≡ sent x.number) silent (sym h.by_nobody))

module _ (w : World) (s : IsSound w) (sent : ℕ → List ℕ) (h : Sent w sent) where
  -- only a source brings something
  brings_nothing : (event : Event) (o : Outcome) → Brought w event o → (id : ℕ) → ((mount : List ℕ) → standing_of w id ≡ Feeds mount → ⊥)
      → of_client event id (block_in o.change) ≡ []
  brings_nothing event o (BringsBlock him mount block feeding) id not =
      by_number him id (λ same. absurd (not mount (ap (standing_of w) (sym same) ∙ feeding))) (λ other. not_of (Push him block) id block other)
  brings_nothing event o (BringsTitle him mount text feeding) id not = nothing_of event id [] refl
  brings_nothing event o (ByCommand _ command c) id not = nothing_of event id [] refl
  brings_nothing event o (BringsNothing _ _ no_block no_title live) id not = nothing_of event id (block_in o.change) no_block

  whole_now : Event → Outcome → Type 0
  whole_now event o = (mount : List ℕ) (session : Session) → session_of (changed w o.change).station.live mount ≡ Some session
      → session.stream.bytes ≡ sent session.number ++ of_client event session.number (block_in o.change)

  as_it_was : (event : Event) (mount : List ℕ) (session : Session) → session_of w.station.live mount ≡ Some session
      → session.stream.bytes ≡ sent session.number ++ of_client event session.number []
  as_it_was event mount session live = h.whole mount session live ∙ with_nothing (sent session.number) (of_client event session.number [])
      (nothing_of event session.number [] refl)

  -- a session that is empty has a source that has sent nothing
  whole_so_far : (session : Session) → IsOldOrEmpty w session → session.stream.bytes ≡ sent session.number
  whole_so_far session (IsOld mount live) = h.whole mount session live
  whole_so_far session (IsEmpty no_data no_title (inl undecided)) = no_data ∙ sym (h.none_yet session.number undecided.0 undecided.1)
  whole_so_far session (IsEmpty no_data no_title (inr above)) = no_data ∙ sym (h.none_above session.number above)

  grown_whole : (him : ℕ) (mount block : List ℕ) → standing_of w him ≡ Feeds mount → (other : List ℕ) (now : Session)
      → session_of (changed w (Receive mount block)).station.live other ≡ Some now
      → now.stream.bytes ≡ sent now.number ++ of_client (Push him block) now.number block
  grown_whole him mount block feeding other now e =
      grown_cases w s mount block other now (ap (λ (later : World). session_of later.station.live other) (sym (is_taken_in w mount block)) ∙ e)
      (λ session same found one. subst (λ (x : Session). x.stream.bytes ≡ sent x.number ++ of_client (Push him block) x.number block) one
      (here session found))
      (λ apart found.
      h.whole other now found
      ∙ with_nothing (sent now.number) (of_client (Push him block) now.number block)
      (by_number him now.number
      (λ same. let both : Feeds mount ≡ Feeds other = sym feeding ∙ ap (standing_of w) same ∙ s.fed other now found in let one : mount ≡ other =
      cc in let there : bytes_eq mount other ≡ true = (bytes_eq-Decides mount other).1 one in cc)
      (λ away. not_of (Push him block) now.number block away)))
      (λ none. let ours = s.feeds him mount feeding in let found : session_of w.station.live mount ≡ Some ours.0 = ours.1 in cc) where
        here : (session : Session) → session_of w.station.live mount ≡ Some session
            → session.stream.bytes ++ block ≡ sent session.number ++ of_client (Push him block) session.number block
        here session found =
            let ours = s.feeds him mount feeding in
            let both : Some ours.0 ≡ Some session = sym ours.1 ∙ found in
            let one : ours.0 ≡ session = cc in
            let number : him ≡ session.number = sym ours.2 ∙ ap (λ (x : Session). x.number) one in
            let itself : (him == session.number) ≡ true = grind (arith, nat_tests) in
            ap (λ xs. xs ++ block) (h.whole mount session found) ∙ ap (λ xs. sent session.number ++ xs) (his_own (him == session.number) block itself)

  titled_whole : (him : ℕ) (mount text : List ℕ) → standing_of w him ≡ Feeds mount → (other : List ℕ) (now : Session)
      → session_of (changed w (SetTitle mount text)).station.live other ≡ Some now
      → now.stream.bytes ≡ sent now.number ++ of_client (Title him text) now.number []
  titled_whole him mount text feeding other now e =
      titled_cases w s mount text him feeding other now e
      (λ session same found number one. subst (λ (x : Session). x.stream.bytes ≡ sent x.number ++ of_client (Title him text) x.number []) one
      (as_it_was (Title him text) other session found))
      (λ apart found. as_it_was (Title him text) other now found)

  whole_by : (event : Event) (o : Outcome) → Brought w event o → whole_now event o
  unfolding whole_now
  whole_by event o (BringsBlock him mount block feeding) = grown_whole him mount block feeding
  whole_by event o (BringsTitle him mount text feeding) = titled_whole him mount text feeding
  whole_by event o (ByCommand _ command c) = λ mount session e.
      let was = was_live_then w event command c mount s session e in
      subst (λ (x : WholeStream). x.bytes ≡ sent session.number ++ of_client event session.number []) was.stream
      (subst (λ (n : ℕ). was.old.stream.bytes ≡ sent n ++ of_client event n []) was.number (as_it_was event mount was.old was.was))
  whole_by event o (BringsNothing _ _ no_block no_title live) = λ mount session e.
      whole_so_far session (live mount session e)
      ∙ with_nothing (sent session.number) (of_client event session.number (block_in o.change)) (nothing_of event session.number (block_in o.change) no_block)

  sent_step : (event : Event) → Sent (world_after w event) (λ n. sent n ++ delivered_at w event n)
  unfolding world_after whole_now
  sent_step event = record {
    whole = whole_by event (outcome w event) (brought w s event);
    by_nobody = nothing 0 h.by_nobody (λ mount f. let unknown : standing_of w 0 ≡ Unknown = s.from_one in cc);
    none_yet = none_yet;
    none_above = λ id high.
        let low = last_rises w s event in
        let above : w.station.last_id < id = omega (arith, low, high) in
        nothing id (h.none_above id above) (λ mount f. let unknown : standing_of w id ≡ Unknown = s.numbered id above in cc);
  } where
    nothing : (id : ℕ) → sent id ≡ [] → ((mount : List ℕ) → standing_of w id ≡ Feeds mount → ⊥) → sent id ++ delivered_at w event id ≡ []
    nothing id none not = ap (λ xs. xs ++ delivered_at w event id) none ∙ brings_nothing event (outcome w event) (brought w s event) id not

    by_before : (id : ℕ) (peer : Peer) → (standing_of w id ≡ Undecided peer) ⊎ ((w.station.last_id < id) × (passes w.station.lists peer ≡ true))
        → sent id ++ delivered_at w event id ≡ []
    by_before id peer (inl before) = nothing id (h.none_yet id peer before) (λ mount f. cc)
    by_before id peer (inr new) = nothing id (h.none_above id new.0) (λ mount f. let unknown : standing_of w id ≡ Unknown = s.numbered id new.0 in cc)

    none_yet : (id : ℕ) (peer : Peer) → standing_of (world_after w event) id ≡ Undecided peer → sent id ++ delivered_at w event id ≡ []
    none_yet id peer e = by_before id peer (undecided_before w s event id peer e)

abbrev cut_from : World → List Event → ℕ → Cut ℕ
cut_from w events id = cut_at_sittings (λ v event. handed_at v event id) w events id

-- from any state on, what the events hand out is cut into slices of what was sent so far and what they deliver
all_cut : (w : World) → IsSound w → (sent : ℕ → List ℕ) → Sent w sent → (id : ℕ) (events : List Event)
    → IsCutSo (λ n. sent n ++ delivered w events n) (seat_of w.seats id) (sittings w events id) (cut_from w events id)
all_cut w s sent h id [] = (nothing_next w s sent (λ n. []) (whole_heard w sent h) id (seat_of w.seats id) refl, tt)
all_cut w s sent h id (event ∷ events) =
    let later = world_after w event in
    let comes = λ (n : ℕ). delivered_at w event n in
    let more = λ (n : ℕ). delivered later events n in
    let rest = all_cut later (sound_after w s event) (λ n. sent n ++ comes n) (sent_step w s sent h event) id events in
    cut_step w s sent (λ n. comes n ++ more n) (whole_heard w sent h) event (Finishes w event id) id (seat_of w.seats id) (seat_of later.seats id)
    (handed_at w event id) (seats_step w s event id) refl (sittings later events id) (cut_from later events id)
    (subst (λ (all : ℕ → List ℕ). IsCutSo all (seat_of later.seats id) (sittings later events id) (cut_from later events id))
    (fun_ext (λ n. append_assoc (sent n) (comes n) (more n))) rest)

pub stretches_cut : (settings : Settings) (lists : Lists) (events : List Event) → StretchesAreCut settings lists events
stretches_cut settings lists events id =
    all_cut (opening settings lists) (sound_opening settings lists) (λ n. [])
    (record { whole = λ mount session e. cc; by_nobody = refl; none_yet = λ n peer e. cc; none_above = λ n h. refl }) id events

-- joined, they are all that the listener gets
handed_cut : (w : World) (events : List Event) (id : ℕ) → (cut_from w events id).before ++ concat (cut_from w events id).each ≡ handed w events id
handed_cut w [] id = refl
handed_cut w (event ∷ events) id =
    let later = world_after w event in
    cut_joined (handed_at w event id) (begun_sittings (seat_of w.seats id) (seat_of later.seats id)) (cut_from later events id)
    ∙ ap (λ (xs : List ℕ). handed_at w event id ++ xs) (handed_cut later events id)

pub stretches_hold : (settings : Settings) (lists : Lists) (events : List Event) → StretchesAreWhole settings lists events
stretches_hold settings lists events id =
    let w = opening settings lists in
    let cut = cut_from w events id in
    let slices = stretches_cut settings lists events id in
    subst (AreStretches (delivered w events) (sittings w events id))
    (ap (λ (xs : List ℕ). xs ++ concat cut.each) (sym slices.0) ∙ handed_cut w events id)
    (joined_slices (delivered w events) (sittings w events id) cut.each slices.1)
