-- what an event does to others, and whom it finishes
use Rattle.std.proofs.Common.{◌≡◌, ◌⊎◌, inl, inr, true, false, ℕ, ◌+◌, ◌<◌, ◌==◌, Option, Some, refl, ap, sym, subst, ◌∙◌, arith}
use Rattle.radio_core.proofs.Words.{Rule, Peer, passes, by_number, Client, Relay, relay_of, Listener, Seat, Event, Outcome, Arrived, Standing, Unknown, Undecided, Feeds, Sits, Answered, World, standing_of}
use Rattle.radio_core.proofs.Words.{standing_of_found, Cause, SessionIsOver, IsFarBehind, HasSatOut, HasAskedNothing, HasSentNothing, IsKilled, HisSessionIsKilled, Finishes, IsNotAccepted, StandsOn, OthersStandOn}
use Rattle.radio_core.proofs.Words.{listener_of, seat_of, IsSound, outcome, reply_to, world_after, client_in}
use Rattle.radio_parts_station.specs.declared.clients.ClientState.TheVariants.{Undecided as IsNew}
use Rattle.radio_events.specs.declared.reply.Reply.TheVariants.{Finished}
use Rattle.radio_parts_station.specs.declared.standing.Standing.TheVariants.{Finished as HasFinished}
use Rattle.radio_core.proofs.Clients.NamedRules.{RuleNamed, DeniesIt, RefusesHim, TellsHisRule, NamesNoRule, rule_in, rule_named}
use Rattle.radio_core.proofs.Clients.Effects.{Effect, Same, Joins, Rises, Acts, Sweeps, IsSwept, GoesOnAs, IsOut, HasDone, HasActed, effect_of}
use Rattle.radio_core.proofs.Sessions.TickLemmas.{asking_at}

-- whoever is finished by an event was there
new_in : (relay : Option Relay) (listener : Option Listener) (client : Client) → client.state ≡ IsNew → standing_of_found relay listener (Some client) ≡ Unknown → ⊥
new_in relay listener client e u = let undecided : standing_of_found relay listener (Some client) ≡ Undecided client.peer = rw e refl in cc

pub known_before : (w : World) → IsSound w → (event : Event) (id : ℕ) (rule : Rule) → Finishes w event id rule → standing_of w id ≡ Unknown → ⊥
known_before w s event id rule finishes unknown = by_cause finishes.cause where
  no_seat : (seat : Seat) → seat_of w.seats id ≡ Some seat → ⊥
  no_seat seat has = let sat : standing_of w id ≡ Sits = s.sitting id seat has in cc

  by_cause : {by : Rule} → Cause w (world_after w event) event id by → ⊥
  by_cause (SessionIsOver _ seat has leaves) = no_seat seat has
  by_cause (IsFarBehind him block seat e feeds has behind) = no_seat seat has
  by_cause (HasSatOut ms seat e has out) = no_seat seat has
  by_cause (HasAskedNothing ms client e found late) =
      new_in (relay_of w.station.relays id) (listener_of w.seats id) client (asking_at w.station.settings.limits.header_timeout ms client.arrived client.state late)
      (ap (standing_of_found (relay_of w.station.relays id) (listener_of w.seats id)) (sym found) ∙ unknown)
  by_cause (HasSentNothing ms session e feeds live silent) = cc
  by_cause (IsKilled seat has named) = no_seat seat has
  by_cause (IsNotAccepted seat has changes out) = no_seat seat has
  by_cause (HisSessionIsKilled session feeds live named) = cc

-- two clients are one, or apart
apart_from : (event : Event) (him id : ℕ) → client_in event ≡ Some him → (client_in event ≡ Some id → ⊥) → (him == id) ≡ false
apart_from event him id his not = by_number him id (λ same. absurd (not (his ∙ ap (λ (n : ℕ). Some n) same))) (λ other. other)

not_finished : (now : Standing) (rule : Rule) → HasActed now → now ≡ HasFinished rule → ⊥
not_finished (HasFinished by) rule acted e = acted
not_finished (Undecided peer) rule acted e = acted
not_finished Unknown rule acted e = cc
not_finished (Feeds mount) rule acted e = cc
not_finished Sits rule acted e = cc
not_finished Answered rule acted e = cc

not_undecided : (now : Standing) (peer : Peer) → HasActed now → now ≡ Undecided peer → ⊥
not_undecided (Undecided by) peer acted e = acted
not_undecided (HasFinished by) peer acted e = acted
not_undecided Unknown peer acted e = cc
not_undecided (Feeds mount) peer acted e = cc
not_undecided Sits peer acted e = cc
not_undecided Answered peer acted e = cc

module _ (w : World) (s : IsSound w) (event : Event) where
  -- others keep their standing, or are finished
  stands_by : (id : ℕ) → (client_in event ≡ Some id → ⊥) → Effect w (world_after w event) event (reply_to w event) → StandsOn w event id
  stands_by id not (Same same) = inl (same id)
  stands_by id not (Joins peer passing arrived t) = by_number (w.station.last_id + 1) id (λ same. inr (inr (arrived ∙ ap (λ (n : ℕ). Arrived n) same)))
      (λ other. inl (t.others id other))
  stands_by id not (Rises mount arrived t) = by_number (w.station.last_id + 1) id (λ same. inr (inr (arrived ∙ ap (λ (n : ℕ). Arrived n) same)))
      (λ other. inl (t.others id other))
  stands_by id not (Acts him now his acted t) = inl (t.others id (apart_from event him id his not))
  stands_by id not (Sweeps swept) = by_sweep (swept id) where
    by_sweep : IsSwept w (world_after w event) event id → StandsOn w event id
    by_sweep (GoesOnAs same) = inl same
    by_sweep (IsOut rule cause finished none) = inr (inl (rule, record { cause = cause; has_finished = finished; has_none = none }))
    by_sweep (HasDone own acted) = absurd (not own)

  pub others_hold : OthersStandOn w event
  others_hold id not = stands_by id not (effect_of w s event)

  -- a client that is finished after an event was finished before it, or the event finishes it
  finished_by : (id : ℕ) (rule : Rule) → standing_of (world_after w event) id ≡ HasFinished rule → Effect w (world_after w event) event (reply_to w event)
      → (standing_of w id ≡ HasFinished rule) ⊎ Finishes w event id rule
  finished_by id rule e (Same same) = inl (sym (same id) ∙ e)
  finished_by id rule e (Joins peer passing arrived t) =
      by_number (w.station.last_id + 1) id
      (λ same. let now : Undecided peer ≡ HasFinished rule = sym t.his ∙ ap (standing_of (world_after w event)) same ∙ e in cc)
      (λ other. inl (sym (t.others id other) ∙ e))
  finished_by id rule e (Rises mount arrived t) =
      by_number (w.station.last_id + 1) id
      (λ same. let now : Feeds mount ≡ HasFinished rule = sym t.his ∙ ap (standing_of (world_after w event)) same ∙ e in cc)
      (λ other. inl (sym (t.others id other) ∙ e))
  finished_by id rule e (Acts him now his acted t) =
      by_number him id
      (λ same. absurd (not_finished now rule acted (sym t.his ∙ ap (standing_of (world_after w event)) same ∙ e)))
      (λ other. inl (sym (t.others id other) ∙ e))
  finished_by id rule e (Sweeps swept) = by_sweep (swept id) where
    by_sweep : IsSwept w (world_after w event) event id → (standing_of w id ≡ HasFinished rule) ⊎ Finishes w event id rule
    by_sweep (GoesOnAs same) = inl (sym same ∙ e)
    by_sweep (IsOut by cause finished none) =
        let both : HasFinished by ≡ HasFinished rule = sym finished ∙ e in
        let one : by ≡ rule = cc in
        inr (subst (λ (r : Rule). Finishes w event id r) one (record { cause = cause; has_finished = finished; has_none = none }))
    by_sweep (HasDone own acted) = absurd (not_finished (standing_of (world_after w event) id) rule acted e)

  pub finish_step : (id : ℕ) (rule : Rule) → standing_of (world_after w event) id ≡ HasFinished rule
      → (standing_of w id ≡ HasFinished rule) ⊎ Finishes w event id rule
  finish_step id rule e = finished_by id rule e (effect_of w s event)

  -- it has a new number, and its address passes the address lists
  abbrev HasArrived : ℕ → Peer → Type 0
  HasArrived id peer = (w.station.last_id < id) × (passes w.station.lists peer ≡ true)

  -- who has asked for nothing after an event had not before, or has only arrived
  undecided_by : (id : ℕ) (peer : Peer) → standing_of (world_after w event) id ≡ Undecided peer → Effect w (world_after w event) event (reply_to w event)
      → (standing_of w id ≡ Undecided peer) ⊎ HasArrived id peer
  undecided_by id peer e (Same same) = inl (sym (same id) ∙ e)
  undecided_by id peer e (Joins other passing arrived t) =
      by_number (w.station.last_id + 1) id
      (λ same.
      let both : Undecided other ≡ Undecided peer = sym t.his ∙ ap (standing_of (world_after w event)) same ∙ e in
      let one : other ≡ peer = cc in
      let new : w.station.last_id < id = omega arith in
      inr (new, ap (passes w.station.lists) (sym one) ∙ passing))
      (λ apart. inl (sym (t.others id apart) ∙ e))
  undecided_by id peer e (Rises mount arrived t) =
      by_number (w.station.last_id + 1) id
      (λ same. let now : Feeds mount ≡ Undecided peer = sym t.his ∙ ap (standing_of (world_after w event)) same ∙ e in cc)
      (λ apart. inl (sym (t.others id apart) ∙ e))
  undecided_by id peer e (Acts him now his acted t) =
      by_number him id
      (λ same. absurd (not_undecided now peer acted (sym t.his ∙ ap (standing_of (world_after w event)) same ∙ e)))
      (λ other. inl (sym (t.others id other) ∙ e))
  undecided_by id peer e (Sweeps swept) = by_sweep (swept id) where
    by_sweep : IsSwept w (world_after w event) event id → (standing_of w id ≡ Undecided peer) ⊎ HasArrived id peer
    by_sweep (GoesOnAs same) = inl (sym same ∙ e)
    by_sweep (IsOut by cause finished none) = cc
    by_sweep (HasDone own acted) = absurd (not_undecided (standing_of (world_after w event) id) peer acted e)

  pub undecided_before : (id : ℕ) (peer : Peer) → standing_of (world_after w event) id ≡ Undecided peer
      → (standing_of w id ≡ Undecided peer) ⊎ HasArrived id peer
  undecided_before id peer e = undecided_by id peer e (effect_of w s event)

-- a client whose reply says that it was finished has that standing
told_by : (w : World) (event : Event) (o : Outcome) → RuleNamed w event o → (rule : Rule) → o.reply ≡ Finished rule
    → (id : ℕ) × (client_in event ≡ Some id) × (standing_of w id ≡ HasFinished rule)
told_by w event o (TellsHisRule him by its known) rule d = let same : by ≡ rule = cc in (him, its, known ∙ ap (λ (r : Rule). HasFinished r) same)
told_by w event o (DeniesIt by v nobody) rule d = cc
told_by w event o (RefusesHim him by v its undecided) rule d = cc
told_by w event o (NamesNoRule _ none) rule d = let named : rule_in o.reply ≡ Some rule = ap rule_in d in cc

pub finished_told : (w : World) (event : Event) (rule : Rule) → reply_to w event ≡ Finished rule
    → (id : ℕ) × (client_in event ≡ Some id) × (standing_of w id ≡ HasFinished rule)
unfolding reply_to
finished_told w event rule d = told_by w event (outcome w event) (rule_named w event) rule d
