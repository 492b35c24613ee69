-- One step of the core, in the states that it represents.
use Rattle.std.proofs.Common.{◌≡◌, ℕ, List, [], ◌∷◌, Some, Result, Ok, Err, OnOk, OnErr, IfOk, ◌≤◌, refl, ap, sym, subst, ◌∙◌}
use Rattle.radio_core.proofs.Words.{Event, Outcome, Sits, Reply, changed, first_start, kept_changed, counted, with_counts, uncounted, planned, Session, session_of, outcome, reply_to, world_after, Step, Represents}
use Rattle.radio_core.proofs.Words.{StandsForSome, end_of, World, opening, standing_of, Settings, Lists, Seat, seat_of, last_mount_of}
use Rattle.radio_core.proofs.Kept.KeptOutcomes.{outcome_kept}
use Rattle.radio_core.proofs.Kept.KeptRuns.{kept_on, seat_is_kept}
use Rattle.radio_core.proofs.Kept.KeptSteps.{changed_kept, rise_changed}
use Rattle.radio_parts.proofs.PlannedLemmas.{planned_so, completed_so}
use Rattle.radio_core.proofs.Sound.SoundRuns.{sound_after, sound_opening}
use Rattle.radio_parts_facts.specs.Wanted.{wanted}

-- the opening state represents itself
pub opening_represents : (settings : Settings) (lists : Lists) → Represents (opening settings lists) (opening settings lists)
unfolding Represents
opening_represents settings lists = record { shows = refl; rise = tt; kept = λ id seat session e f. cc; sound = sound_opening settings lists }

-- a core has the settings of each state that it represents
pub keeps_settings : (core w : World) → Represents core w → core.station.settings ≡ w.station.settings
unfolding Represents
keeps_settings core w stands = ap (λ (x : World). x.station.settings) stands.shows

-- a core wants the same mounts as each state that it represents
pub wants_alike : (core w : World) → Represents core w → wanted core ≡ wanted w
unfolding Represents
wants_alike core w stands = ap wanted stands.shows

-- and each listener sits, or sat last, where it does there
pub last_alike : (core w : World) → Represents core w → (id : ℕ) → last_mount_of core.seats id ≡ last_mount_of w.seats id
unfolding Represents
last_alike core w stands id = ap (λ (x : World). last_mount_of x.seats id) stands.shows

pub opening_stands : (settings : Settings) (lists : Lists) → StandsForSome (opening settings lists)
unfolding StandsForSome
opening_stands settings lists = (opening settings lists, opening_represents settings lists)

-- no place of a seat is forgotten
pub place_is_kept : (now : World) → StandsForSome now → (id : ℕ) (seat : Seat) (session : Session) → seat_of now.seats id ≡ Some seat
    → session_of now.station.live seat.mount ≡ Some session → first_start (end_of session.stream) session.stream.starts ≤ seat.place
unfolding StandsForSome Represents
place_is_kept now stands id seat session has live =
    let w = stands.0 in
    let shows = stands.1.shows in
    seat_is_kept w stands.1.rise stands.1.kept id seat session (sym (ap (λ (x : World). seat_of x.seats id) shows) ∙ has)
    (sym (ap (λ (x : World). session_of x.station.live seat.mount) shows) ∙ live)

-- whoever has a seat sits
pub seat_sits : (now : World) → StandsForSome now → (id : ℕ) (seat : Seat) → seat_of now.seats id ≡ Some seat → standing_of now id ≡ Sits
unfolding StandsForSome Represents
seat_sits now stands id seat has =
    let w = stands.0 in
    let shows = stands.1.shows in
    ap (λ (x : World). standing_of x id) shows
    ∙ stands.1.sound.sitting id seat (sym (ap (λ (x : World). seat_of x.seats id) shows) ∙ has)

-- an outcome that was worked out and committed is a step, from each state that the core represented
module _ (now later : World) (event : Event) (o : Outcome) (is_planned : o ≡ planned now event) where
  -- the reply, with the number of those who were moved, or have finished
  abbrev told_reply : Reply
  told_reply = with_counts o.reply (counted now o.change)

  is_uncounted : o ≡ uncounted (outcome now event)
  is_uncounted = is_planned ∙ planned_so now event

  is_told : told_reply ≡ (outcome now event).reply
  is_told = ap (λ (x : Outcome). with_counts x.reply (counted now x.change)) is_uncounted ∙ completed_so now event

  steps_to : later ≡ kept_changed now o.change → (w : World) → Represents now w → (w' : World) × Step w event told_reply w' × Represents later w'
  unfolding Represents reply_to world_after
  steps_to ok w stands =
      let alike : outcome now event ≡ outcome w event
      = ap (λ (x : World). outcome x event) stands.shows ∙ outcome_kept w stands.rise stands.kept event in
      let same : o.change ≡ (outcome w event).change
      = ap (λ (x : Outcome). x.change) is_uncounted ∙ ap (λ (x : Outcome). x.change) alike in (
        changed w (outcome w event).change,
        (is_told ∙ ap (λ (x : Outcome). x.reply) alike, refl),
        record {
          shows = ok ∙ ap (kept_changed now) same
              ∙ ap (λ (x : World). kept_changed x (outcome w event).change) stands.shows ∙ changed_kept w stands.rise (outcome w event).change;
          rise = rise_changed w stands.rise (outcome w event).change;
          kept = kept_on w stands.rise stands.sound.by_number stands.kept event;
          sound = sound_after w stands.sound event;
        },
      )

  -- so it still represents a state
  pub still_stands : {A E : Type 0} (result : Result A E) → OnOk result (later ≡ kept_changed now o.change) → OnErr result (later ≡ now) → StandsForSome now
      → StandsForSome later
  unfolding StandsForSome
  still_stands (Ok x) ok err stands = let s = steps_to ok stands.0 stands.1 in (s.0, s.2)
  still_stands (Err e) ok err stands = (stands.0, subst (λ (x : World). Represents x stands.0) (sym err) stands.1)

  pub step_done : {E : Type 0} (result : Result Reply E) → OnOk result (later ≡ kept_changed now o.change) → IfOk result (λ reply. reply ≡ told_reply)
      → (w : World) → Represents now w → IfOk result (λ reply. (w' : World) × Step w event reply w' × Represents later w')
  step_done (Ok reply) ok told w stands =
      let s = steps_to ok w stands in
      (s.0, (told ∙ s.1.0, s.1.1), s.2)
  step_done (Err refused) ok told w stands = tt

  pub steps_done : {E : Type 0} (result : Result (List Reply) E) → OnOk result (later ≡ kept_changed now o.change)
      → IfOk result (λ replies. replies ≡ told_reply ∷ told_reply ∷ told_reply ∷ []) → (w : World) → Represents now w
      → IfOk result (λ replies. (reply : Reply) × (w' : World) × Step w event reply w' × (replies ≡ reply ∷ reply ∷ reply ∷ []) × Represents later w')
  steps_done (Ok replies) ok told w stands =
      let s = steps_to ok w stands in
      (told_reply, s.0, s.1, told, s.2)
  steps_done (Err refused) ok told w stands = tt

-- a core gives the reply of each state that it represents
pub replies_alike : (core w : World) → Represents core w → (event : Event) → reply_to core event ≡ reply_to w event
unfolding Represents reply_to
replies_alike core w stands event =
    ap (λ (o : Outcome). o.reply) (ap (λ (x : World). outcome x event) stands.shows ∙ outcome_kept w stands.rise stands.kept event)
