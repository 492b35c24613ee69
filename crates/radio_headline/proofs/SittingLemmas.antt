-- Each sitting is in the session of a source, or waits for one.
use Rattle.std.proofs.Common.{◌≡◌, inl, inr, ℕ, ◌+◌, ◌==◌, Bool, true, false, List, [], ◌∷◌, ◌++◌, Option, None, Some, refl, sym, ap, subst, ◌∙◌, append_assoc}
use Rattle.radio_headline.proofs.Words.{if◌then◌else◌, AllByRecursion, append-nil, Shown, Settings, Lists, Event, Source, RelayUp, SourceRequest, Arrived, seat_of, Session, session_of, run_after, HasBegun, SessionStep}
use Rattle.radio_headline.proofs.Words.{SessionsStep, BeginsForRelay, Grows, IsTitled, IsRetitled, IsKilled, reply_to, world_after, heard_at, World, opening, SeatsKeepTheirMounts, Sitting, begun_sittings}
use Rattle.radio_headline.proofs.Words.{sitting_of_seat, sittings, Happening, events_in, on}
use Rattle.radio_seats_rows.specs.declared.seat.Seat.{Seat}
use Rattle.radio_core.specs.SessionSteps.{Stays, Begins, Ends}
use Rattle.radio_headline.proofs.Logs.{after_joined, events_joined}
use Rattle.radio_headline.proofs.ReplyForms.{comes_up}
use Rattle.radio_headline.proofs.RunLemmas.{AllNowhere, IsMoment}

same_some : (a b : Session) → Some a ≡ Some b → a ≡ b
same_some a b e = cc

module _ (settings : Settings) (lists : Lists)
    (sessions : (events : List Event) (event : Event) → SessionsStep (run_after settings lists events) event)
    (mounts : (events : List Event) (event : Event) → SeatsKeepTheirMounts (run_after settings lists events) event) where
  abbrev pub server_at : List Happening → World
  server_at past = run_after settings lists (events_in past)

  -- a session's source has asked for its mount, or its relay has come up there
  pub data IsFed (past : List Happening) (mount : List ℕ) (session : Session) : Type 0 where
    BySource : (label : ℕ) (asked : SourceRequest) (before after : List Happening) (begun : Session) → past ≡ before ++ on label (Source asked) ∷ after
        → asked.mount ≡ mount → asked.id ≡ session.number → HasBegun (server_at before) mount asked.id asked.shown begun → session.shown ≡ begun.shown
        → IsFed past mount session
    ByRelay : (label : ℕ) (shown : Shown) (before after : List Happening) (begun : Session) → past ≡ before ++ on label (RelayUp mount shown) ∷ after
        → reply_to (server_at before) (RelayUp mount shown) ≡ Arrived session.number → HasBegun (server_at before) mount session.number shown begun
        → session.shown ≡ begun.shown → IsFed past mount session

  abbrev pub AreFed : List Happening → Type 0
  AreFed past = (mount : List ℕ) (session : Session) → session_of (server_at past).station.live mount ≡ Some session → IsFed past mount session

  then_more : (past : List Happening) (h : Happening) → server_at (past ++ h ∷ []) ≡ world_after (server_at past) h.event
  then_more past h = ap (run_after settings lists) (events_joined past (h ∷ [])) ∙ after_joined (opening settings lists) (events_in past) (h.event ∷ [])

  still_fed : (past : List Happening) (h : Happening) (mount : List ℕ) (session later : Session) → later.number ≡ session.number
      → later.shown ≡ session.shown → IsFed past mount session → IsFed (past ++ h ∷ []) mount later
  still_fed past h mount session later number shown (BySource label asked before after begun e m n b s) =
      BySource label asked before (after ++ h ∷ []) begun
      (ap (λ (xs : List Happening). xs ++ h ∷ []) e ∙ append_assoc before (on label (Source asked) ∷ after) (h ∷ [])) m (n ∙ sym number) b (shown ∙ s)
  still_fed past h mount session later number shown (ByRelay label own before after begun e r b s) =
      ByRelay label own before (after ++ h ∷ []) begun
      (ap (λ (xs : List Happening). xs ++ h ∷ []) e ∙ append_assoc before (on label (RelayUp mount own) ∷ after) (h ∷ []))
      (r ∙ ap (λ (m : ℕ). Arrived m) (sym number)) (subst (λ (m : ℕ). HasBegun (server_at before) mount m own begun) (sym number) b) (shown ∙ s)

  -- on which connection
  its_label : (h : Happening) → (h.label ≡ None → IsMoment h.event) → (IsMoment h.event → ⊥) → (label : ℕ) × (h.label ≡ Some label)
  its_label h none never = by_label h.label refl where
    by_label : (l : Option ℕ) → h.label ≡ l → (label : ℕ) × (h.label ≡ Some label)
    by_label None e = absurd (never (none e))
    by_label (Some label) e = (label, e)

  module _ (past : List Happening) (h : Happening) (none : h.label ≡ None → IsMoment h.event) (fed : AreFed past) (mount : List ℕ) where
    here : (label : ℕ) (event : Event) → h.label ≡ Some label → h.event ≡ event → past ++ h ∷ [] ≡ past ++ on label event ∷ []
    here label event l e =
        ap (λ (o : Option ℕ). past ++ record { label = o; event = h.event } ∷ []) l ∙ ap (λ (x : Event). past ++ on label x ∷ []) e

    by_step : (old new : Option Session) → SessionStep (server_at past) h.event mount old new → session_of (server_at past).station.live mount ≡ old
        → session_of (world_after (server_at past) h.event).station.live mount ≡ new → (session : Session) → new ≡ Some session
        → IsFed (past ++ h ∷ []) mount session
    by_step old new (Stays _) before after session e = still_fed past h mount session session refl refl (fed mount session (before ∙ e))
    by_step old new (Begins asked begun e m b) before after session same =
        let l = its_label h none (λ k. subst IsMoment e k) in
        let it : begun ≡ session = cc in
        BySource l.0 asked past [] begun (here l.0 (Source asked) l.1 e) m (sym b.its_source ∙ ap (λ (x : Session). x.number) it) b
        (ap (λ (x : Session). x.shown) (sym it))
    by_step old new (BeginsForRelay shown begun e b) before after session same =
        let l = its_label h none (λ k. subst IsMoment e k) in
        let it : begun ≡ session = cc in
        let number : (server_at past).station.last_id + 1 ≡ session.number = sym b.its_source ∙ ap (λ (x : Session). x.number) it in
        ByRelay l.0 shown past [] begun (here l.0 (RelayUp mount shown) l.1 e)
        (elim (comes_up (server_at past) mount shown) [
          | inl r ↦ r ∙ ap (λ (m : ℕ). Arrived m) number
          | inr stays ↦
              let now : session_of (server_at past).station.live mount ≡ Some begun =
              ap (λ (x : World). session_of x.station.live mount) (sym (ap (world_after (server_at past)) e ∙ stays)) ∙ after in
              let both : None ≡ Some begun = sym before ∙ now in
              absurd (cc)
        ])
        (subst (λ (m : ℕ). HasBegun (server_at past) mount m shown begun) number b) (ap (λ (x : Session). x.shown) (sym it))
    by_step old new (Grows was block e) before after session same =
        let it : _ ≡ session = same_some _ session same in
        still_fed past h mount was session (ap (λ (x : Session). x.number) (sym it)) (ap (λ (x : Session). x.shown) (sym it)) (fed mount was before)
    by_step old new (IsTitled was text e) before after session same =
        let it : _ ≡ session = same_some _ session same in
        still_fed past h mount was session (ap (λ (x : Session). x.number) (sym it)) (ap (λ (x : Session). x.shown) (sym it)) (fed mount was before)
    by_step old new (IsRetitled was text e) before after session same =
        let it : _ ≡ session = same_some _ session same in
        still_fed past h mount was session (ap (λ (x : Session). x.number) (sym it)) (ap (λ (x : Session). x.shown) (sym it)) (fed mount was before)
    by_step old new (Ends was e) before after session same = cc
    by_step old new (IsKilled was e) before after session same = cc

  fed_more : (past : List Happening) (h : Happening) → (h.label ≡ None → IsMoment h.event) → AreFed past → AreFed (past ++ h ∷ [])
  fed_more past h none fed mount session e =
      by_step past h none fed mount (session_of (server_at past).station.live mount) (session_of (world_after (server_at past) h.event).station.live mount)
      (sessions (events_in past) h.event mount) refl refl session (ap (λ (x : World). session_of x.station.live mount) (sym (then_more past h)) ∙ e)

  pub none_fed : AreFed []
  none_fed mount session e = cc

  pub fed_all : (past rest : List Happening) → AllNowhere (λ h. IsMoment h.event) rest → AreFed past → AreFed (past ++ rest)
  fed_all past [] none fed = subst AreFed (sym (append-nil past)) fed
  fed_all past (h ∷ rest) none fed =
      subst AreFed (append_assoc past (h ∷ []) rest) (fed_all (past ++ h ∷ []) rest none.1 (fed_more past h none.0 fed))

  -- each of them sits in the session that the mount's listeners draw, and that session is fed
  abbrev pub SitsWith : List Happening → (Sitting → Type 0) → Type 0
  SitsWith course P = (past later : List Happening) (mount : List ℕ) (session : Session) (start : ℕ) → course ≡ past ++ later → AreFed past
      → heard_at (server_at past).station mount ≡ Some session → P (record { mount = mount; source = session.number; start = start })

  all_joined : (P : Sitting → Type 0) (xs ys : List Sitting) → AllByRecursion P xs → AllByRecursion P ys → AllByRecursion P (xs ++ ys)
  all_joined P [] ys h k = k
  all_joined P (x ∷ xs) ys h k = (h.0, all_joined P xs ys h.1 k)

  module _ (P : Sitting → Type 0) where
    in_his_seat : (old : Option Seat) (now : Option Seat) → ((seat : Seat) → now ≡ Some seat → P (sitting_of_seat seat)) → AllByRecursion P (begun_sittings old now)
    in_his_seat None None f = tt
    in_his_seat (Some old) None f = tt
    in_his_seat None (Some seat) f = (f seat refl, tt)
    in_his_seat (Some old) (Some seat) f = by_session (old.session == seat.session) where
      by_session : (b : Bool) → AllByRecursion P (if b then [] else sitting_of_seat seat ∷ [])
      by_session true = tt
      by_session false = (f seat refl, tt)

  pub sits_with : (course : List Happening) (P : Sitting → Type 0) → SitsWith course P → (past rest : List Happening) → course ≡ past ++ rest
      → AllNowhere (λ h. IsMoment h.event) rest → AreFed past → (id : ℕ) → AllByRecursion P (sittings (server_at past) (events_in rest) id)
  sits_with course P make past [] e none fed id = tt
  sits_with course P make past (h ∷ rest) e none fed id =
      let more = fed_more past h none.0 fed in
      let parts : course ≡ (past ++ h ∷ []) ++ rest = e ∙ sym (append_assoc past (h ∷ []) rest) in
      all_joined P (begun_sittings (seat_of (server_at past).seats id) (seat_of (world_after (server_at past) h.event).seats id)) _
      (in_his_seat P (seat_of (server_at past).seats id) (seat_of (world_after (server_at past) h.event).seats id)
      (λ seat has.
      let kept = mounts (events_in past) h.event id seat has in
      subst (λ (n : ℕ). P (record { mount = seat.mount; source = n; start = seat.place })) (sym kept.in_the_session)
      (make (past ++ h ∷ []) rest seat.mount kept.session seat.place parts more
      (ap (λ (x : World). heard_at x.station seat.mount) (then_more past h) ∙ kept.is_heard))))
      (subst (λ (x : World). AllByRecursion P (sittings x (events_in rest) id)) (then_more past h)
      (sits_with course P make (past ++ h ∷ []) rest parts none.1 more id))
