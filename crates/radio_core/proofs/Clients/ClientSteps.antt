-- what an event does to the standing of one client
use Rattle.std.proofs.Common.{◌≡◌, ◌⊎◌, inl, inr, ℕ, ◌<◌, true, false, List, Some, refl, ap, sym, subst, ◌∙◌}
use Rattle.radio_core.proofs.Words.{Rule, passes, Shown, Event, Arrive, Push, SourceEnd, Leave, RelayUp, RelayDown, Arrived, Deny, client_in, Outcome, Standing, Unknown, Undecided, Feeds, changed, block_received}
use Rattle.radio_core.proofs.Words.{ClientStep, Arrives, IsAnswered, IsObeyed, IsShown, BeginsToFeed, StopsFeeding, ClientsStep, Cause, Finishes, first_seat, rows_to_raise, StandsOn, HasCome, AsClient, AsRelay}
use Rattle.radio_core.proofs.Words.{on_verdict, raises, Nothing, Allow, verdict_in, IsSound, shown_for, outcome, reply_to, world_after, Way, Misplaced, IsFinished, IsDenied, IsRefused, IsAdmitted, Begins, ComesUp}
use Rattle.radio_core.proofs.Words.{Receives, SetsTitle, TakesSeat, HandsOut, Ends, EndsAndLeaves, Leaves, GoesDown, Obeys, Shows, HasPassed, Ticks, World, standing_of, has_relay, listener_seated, way_of}
use Rattle.radio_parts_station.specs.declared.standing.Standing.TheVariants.{Finished as HasFinished}
use Rattle.radio_core.specs.ClientSteps.{Stays, SitsDown}
use Rattle.radio_core.specs.ClientSteps.{Leaves as HeLeaves, ComesUp as ItComesUp, GoesDown as ItGoesDown, IsFinished as HeIsFinished}
use Rattle.radio_policy.specs.declared.judgement.Verdict.{Verdict}
use Rattle.radio_policy.specs.declared.judgement.Verdict.TheVariants.{Deny as Denied}
use Rattle.radio_core.proofs.Clients.CalledHome.{turns_up}
use Rattle.radio_core.proofs.Clients.ClosingLemmas.{closes_his, leaves_or_goes_down}
use Rattle.radio_core.proofs.Clients.Fates.{Fate, GoesOn, IsEnded, HasStopped, IsMoved, HasEnded, Nobody}
use Rattle.radio_core.proofs.Clients.FinishLemmas.{others_hold, finish_step, undecided_before}
use Rattle.radio_core.proofs.Clients.Effects.{his_event}
use Rattle.radio_core.proofs.Clients.Obeyed.{is_answered}
use Rattle.radio_core.proofs.Clients.OwnLemmas.{by_own}
use Rattle.radio_core.proofs.Clients.ReplyLemmas.{replies_fit}
use Rattle.radio_core.proofs.Sound.SoundEnds.{turns_ended, turns_ended_and_left}
use Rattle.radio_core.proofs.Sound.SoundRuns.{grown_world, NoMove, lag_fates}
use Rattle.radio_core.proofs.Clients.Standings.{asks, turns_answered, turns_sitting, turns_forgotten, stays_hearing}

turned : (w : World) (C : Rule → Type 0) (event : Event) (id : ℕ) {before a later b : Standing} → before ≡ a → later ≡ b → ClientStep w C event id before later
    → ClientStep w C event id a b
turned w C event id {before} {a} {later} {b} ea eb step =
    subst (λ (x : Standing). ClientStep w C event id x b) ea (subst (λ (x : Standing). ClientStep w C event id before x) eb step)

module _ (w : World) (s : IsSound w) (id : ℕ) (C : Rule → Type 0) where
  -- it leaves, or it goes down
  goes : (event : Event) (him : ℕ) → him ≡ id
      → ((event ≡ Leave him) × (has_relay w him ≡ false)) ⊎ ((event ≡ RelayDown him) × (has_relay w him ≡ true))
      → ClientStep w C event id (standing_of w id) Unknown
  goes event him same (inl leaves) =
      HeLeaves (standing_of w id) (leaves.0 ∙ ap (λ (n : ℕ). Leave n) same) (ap (has_relay w) (sym same) ∙ leaves.1)
  goes event him same (inr down) =
      ItGoesDown (standing_of w id) (down.0 ∙ ap (λ (n : ℕ). RelayDown n) same) (ap (has_relay w) (sym same) ∙ down.1)

  -- its own event
  own_by : (event : Event) (o : Outcome) → Way w event o → client_in event ≡ Some id
      → ((rule : Rule) → standing_of (changed w o.change) id ≡ HasFinished rule → (standing_of w id ≡ HasFinished rule) ⊎ C rule)
      → ((rule : Rule) → o.reply ≡ Deny rule → reply_to w event ≡ Deny rule)
      → ClientStep w C event id (standing_of w id) (standing_of (changed w o.change) id)
  own_by event o (Misplaced _) his fin denies = Stays (standing_of w id)
  own_by event o (IsFinished _ him by its known) his fin denies = Stays (standing_of w id)
  own_by event o (IsDenied _ by v nobody) his fin denies = Stays (standing_of w id)
  own_by event o (IsRefused _ him by v its undecided) his fin denies =
      let both : Some him ≡ Some id = sym its ∙ his in
      let same : him ≡ id = cc in
      turned w C event id (sym undecided.1 ∙ ap (standing_of w) same)
      (sym (turns_answered w him (asks w him undecided.0 undecided.1)).his ∙ ap (standing_of (changed w o.change)) same)
      (IsAnswered undecided.0 by his (denies by refl))
  own_by event o (IsAdmitted peer allowed) his fin denies = cc
  own_by event o (Begins asked undecided none allowed) his fin denies =
      let same : asked.id ≡ id = cc in
      turned w C event id (sym undecided.1 ∙ ap (standing_of w) same)
      (sym (turns_up w s asked.id asked.mount (shown_for w.station asked.mount asked.shown) undecided.0 undecided.1 none).his
      ∙ ap (standing_of (changed w o.change)) same)
      (BeginsToFeed undecided.0 asked refl same allowed)
  own_by event o (ComesUp mount shown none allowed) his fin denies = cc
  own_by event o (Receives him mount block feeding) his fin denies = by_fate ((lag_fates w s mount block him feeding).fate id) where
    feeds : standing_of w id ≡ Feeds mount
    feeds = let same : him ≡ id = cc in ap (standing_of w) (sym same) ∙ feeding

    not_before : {A : Type 0} (rule : Rule) → (standing_of w id ≡ HasFinished rule) ⊎ C rule → (C rule → A) → A
    not_before rule (inl was) then_so = let is : standing_of w id ≡ Feeds mount = feeds in cc
    not_before rule (inr cause) then_so = then_so cause

    by_fate : Fate (Cause w (block_received w mount block) (Push him block)) NoMove Nobody HasEnded (grown_world w mount block) (block_received w mount block) id
        → ClientStep w C (Push him block) id (standing_of w id) (standing_of (block_received w mount block) id)
    by_fate (GoesOn same seat sources sits) = turned w C (Push him block) id refl (sym same) (Stays (standing_of w id))
    by_fate (IsEnded rule cause active ended none over) =
        not_before rule (fin rule ended)
        (λ why. turned w C (Push him block) id refl (sym ended) (HeIsFinished (standing_of w id) rule why))
    by_fate (HasStopped other why feeds done none over) = absurd why
    by_fate (IsMoved old session carries left had has same live opens) = absurd carries
  own_by event o (SetsTitle him mount text feeding) his fin denies = Stays (standing_of w id)
  own_by event o (TakesSeat asked peer session undecided lands live allowed) his fin denies =
      let same : asked.id ≡ id = cc in
      turned w C event id (sym undecided ∙ ap (standing_of w) same)
      (sym (turns_sitting w asked.id (first_seat w.station asked peer session) (asks w asked.id peer undecided)).his ∙ ap (standing_of (changed w o.change)) same)
      (SitsDown peer asked refl same allowed)
  own_by event o (HandsOut him room seat session sits has live) his fin denies =
      let listener = listener_seated w.seats him seat has in
      turned w C event id refl (sym (stays_hearing w him _ listener.0 listener.1 id)) (Stays (standing_of w id))
  own_by event o (Ends him mount feeding no_relay) his fin denies =
      let same : him ≡ id = cc in
      turned w C event id (sym feeding ∙ ap (standing_of w) same)
      (sym (turns_ended w s him mount feeding no_relay).his ∙ ap (standing_of (changed w o.change)) same)
      (StopsFeeding mount (ap (λ (n : ℕ). SourceEnd n) same) (ap (has_relay w) (sym same) ∙ no_relay))
  own_by event o (EndsAndLeaves _ him mount closes feeding) his fin denies =
      let both : Some him ≡ Some id = sym (closes_his w him event closes) ∙ his in
      let same : him ≡ id = cc in
      turned w C event id refl (sym (turns_ended_and_left w s him mount feeding).his ∙ ap (standing_of (changed w o.change)) same)
      (goes event him same (leaves_or_goes_down w him event closes))
  own_by event o (Leaves him no_relay other) his fin denies =
      let same : him ≡ id = cc in
      turned w C event id refl (sym (turns_forgotten w him).his ∙ ap (standing_of (changed w o.change)) same) (goes event him same (inl (refl, no_relay)))
  own_by event o (GoesDown him rule relay told) his fin denies =
      let same : him ≡ id = cc in
      turned w C event id refl (sym (turns_forgotten w him).his ∙ ap (standing_of (changed w o.change)) same) (goes event him same (inr (refl, relay)))
  own_by event o (Shows _ asker peer text its undecided what) his fin denies =
      let both : Some asker ≡ Some id = sym its ∙ his in
      let same : asker ≡ id = cc in
      turned w C event id (sym undecided ∙ ap (standing_of w) same)
      (sym (turns_answered w asker (asks w asker peer undecided)).his ∙ ap (standing_of (changed w o.change)) same)
      (IsShown peer text his what)
  own_by event o (Obeys _ command c) his fin denies =
      let both : Some c.asked.id ≡ Some id = sym (his_event w s event command c) ∙ his in
      let same : c.asked.id ≡ id = cc in
      turned w C event id (sym c.undecided ∙ ap (standing_of w) same)
      (sym (is_answered w s event command c) ∙ ap (standing_of (changed w o.change)) same)
      (IsObeyed c.peer command his c)
  own_by event o (HasPassed ms e) his fin denies = cc
  own_by event o (Ticks ms e) his fin denies = cc

  own : (event : Event) → client_in event ≡ Some id
      → ((rule : Rule) → standing_of (world_after w event) id ≡ HasFinished rule → (standing_of w id ≡ HasFinished rule) ⊎ C rule)
      → ClientStep w C event id (standing_of w id) (standing_of (world_after w event) id)
  unfolding reply_to world_after
  own event his fin = own_by event (outcome w event) (way_of w event) his fin (λ rule d. d)

-- a relay that is given a number may come up
allowed_by : (v : Verdict) (raised : Outcome) (id : ℕ) → (on_verdict v Nothing raised).reply ≡ Arrived id → v ≡ Allow
allowed_by Allow raised id told = refl
allowed_by (Denied rule) raised id told = cc

raise_allowed : (w : World) (mount : List ℕ) (shown : Shown) (id : ℕ) → reply_to w (RelayUp mount shown) ≡ Arrived id
    → verdict_in (rows_to_raise w.station mount shown) ≡ Allow
unfolding reply_to outcome
raise_allowed w mount shown id told = allowed_by (verdict_in (rows_to_raise w.station mount shown)) (raises w.station mount shown) id told

-- a client arrives, or a relay comes up
module _ (w : World) (s : IsSound w) (id : ℕ) where
  comes : (event : Event) → HasCome w id event → w.station.last_id < id → standing_of w id ≡ Unknown → reply_to w event ≡ Arrived id
      → ClientStep w (Finishes w event id) event id (standing_of w id) (standing_of (world_after w event) id)
  comes event (AsClient peer stands) above unknown told = by_arrival (undecided_before w s (Arrive peer) id peer stands) where
    by_arrival : (standing_of w id ≡ Undecided peer) ⊎ ((w.station.last_id < id) × (passes w.station.lists peer ≡ true))
        → ClientStep w (Finishes w (Arrive peer) id) (Arrive peer) id (standing_of w id) (standing_of (world_after w (Arrive peer)) id)
    by_arrival (inl was) = cc
    by_arrival (inr new) = turned w (Finishes w (Arrive peer) id) (Arrive peer) id (sym unknown) (sym stands) (Arrives peer refl new.1 new.0)
  comes event (AsRelay mount shown stands) above unknown told =
      turned w (Finishes w (RelayUp mount shown) id) (RelayUp mount shown) id (sym unknown) (sym stands)
      (ItComesUp mount shown refl above (raise_allowed w mount shown id told))

module _ (w : World) (s : IsSound w) (event : Event) (id : ℕ) where
  -- an event of another
  by_other : StandsOn w event id → ClientStep w (Finishes w event id) event id (standing_of w id) (standing_of (world_after w event) id)
  by_other (inl same) = turned w (Finishes w event id) event id refl (sym same) (Stays (standing_of w id))
  by_other (inr (inl finished)) =
      turned w (Finishes w event id) event id refl (sym finished.1.has_finished) (HeIsFinished (standing_of w id) finished.0 finished.1)
  by_other (inr (inr arrived)) = let fits = (replies_fit w s event).arrived id arrived in comes w s id event fits.0 fits.1 fits.2 arrived

  pub client_step : ClientStep w (Finishes w event id) event id (standing_of w id) (standing_of (world_after w event) id)
  client_step =
      by_own event id
      (λ his. own w s id (Finishes w event id) event his
      (λ rule e. finish_step w s event id rule e))
      (λ other apart. by_other (others_hold w s event id other))

pub clients_step : (w : World) → IsSound w → (event : Event) → ClientsStep w event
clients_step w s event id = client_step w s event id
