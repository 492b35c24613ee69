-- the law of clients that have left
use Rattle.std.proofs.Common.{◌≡◌, inl, inr, true, false, ℕ, ◌<◌, ◌≤◌, Bool, Some, List, [], ◌∷◌, ◌++◌, refl, ap, sym, subst, ◌∙◌, arith, Option, None}
use Rattle.radio_laws.proofs.Words.{if◌then◌else◌, nat_lt, nat_tests, append-nil, Settings, Lists, Seat, seat_of, Event, Arrive, Source, Push, SourceEnd, Title, Listen, Draw, Command, Leave, RelayUp, RelayDown, Clock}
use Rattle.radio_laws.proofs.Words.{Nothing, Noted, Stray, says, unless_relayed, goes_down_from, Outcome, Standing, Unknown, Undecided, Feeds, Sits, Answered, World, standing_of, has_relay, changed, session_ended}
use Rattle.radio_laws.proofs.Words.{StationState, Leaving, AsClient, AsRelay, HasLeft, IsOutOfPlace, StaysGone, data_in, block_in, handed_at, handed, delivered_at, delivered, leaves_from, world_after_all, run_after}
use Rattle.radio_laws.proofs.Words.{IsSound, outcome, reply_to, world_after, web_path, WebPath, ListenRequest, Nothing, says, asks_by, Stray, client_in, others_hold, known_before, sound_after, turns_forgotten, by_own}
use Rattle.radio_laws.proofs.Words.{not_of, nothing_of}
use Rattle.radio_parts_station.specs.declared.standing.Standing.TheVariants.{Finished}
use Rattle.radio_core.specs.Others.{StandsOn}
use Rattle.radio_core.proofs.Clients.ReplyLemmas.{replies_fit}
use Rattle.radio_laws.proofs.Ends.StationSteps.{StationStep, IsAlike, GivesNumber, SetsFallback, station_step}

-- runs are joined
after_joined : (w : World) (events more : List Event) → world_after_all w (events ++ more) ≡ world_after_all (world_after_all w events) more
after_joined w [] more = refl
after_joined w (event ∷ events) more = after_joined (world_after w event) events more

-- a listener with a seat has a number that was given
pub given_number : (w : World) → IsSound w → (id : ℕ) (seat : Seat) → seat_of w.seats id ≡ Some seat → id ≤ w.station.last_id
given_number w s id seat has = by_order (nat_lt w.station.last_id id) refl where
  by_order : (above : Bool) → nat_lt w.station.last_id id ≡ above → id ≤ w.station.last_id
  by_order true above =
      let high : w.station.last_id < id = grind (arith, nat_tests) in
      let unknown : standing_of w id ≡ Unknown = s.numbered id high in
      let sat : standing_of w id ≡ Sits = s.sitting id seat has in
      cc
  by_order false above = grind (arith, nat_tests)

-- a client that leaves is gone
left_by : (w : World) (id : ℕ) → id ≤ w.station.last_id → (s : Standing) → standing_of w id ≡ s → HasLeft (changed w (leaves_from id s).change) id
left_by w id given Unknown e = (given, e)
left_by w id given (Feeds mount) e = (given, (turns_forgotten (session_ended w mount) id).his)
left_by w id given (Undecided peer) e = (given, (turns_forgotten w id).his)
left_by w id given Sits e = (given, (turns_forgotten w id).his)
left_by w id given Answered e = (given, (turns_forgotten w id).his)
left_by w id given (Finished rule) e = (given, (turns_forgotten w id).his)

-- and a relay that has gone down
down_by : (w : World) (id : ℕ) → id ≤ w.station.last_id → (s : Standing) → standing_of w id ≡ s → (goes_down_from id s).reply ≡ Noted
    → HasLeft (changed w (goes_down_from id s).change) id
down_by w id given Unknown e noted = cc
down_by w id given (Feeds mount) e noted = (given, (turns_forgotten (session_ended w mount) id).his)
down_by w id given (Undecided peer) e noted = cc
down_by w id given Sits e noted = cc
down_by w id given Answered e noted = cc
down_by w id given (Finished rule) e noted = (given, (turns_forgotten w id).his)

module _ (w : World) (id : ℕ) (given : id ≤ w.station.last_id) where
  client_at_once : (b : Bool) → b ≡ false → HasLeft (changed w (unless_relayed b (leaves_from id (standing_of w id))).change) id
  client_at_once true e = cc
  client_at_once false e = left_by w id given (standing_of w id) refl

  relay_at_once : (b : Bool) → (if b then goes_down_from id (standing_of w id) else says Stray Nothing).reply ≡ Noted
      → HasLeft (changed w (if b then goes_down_from id (standing_of w id) else says Stray Nothing).change) id
  relay_at_once true noted = down_by w id given (standing_of w id) refl noted
  relay_at_once false noted = cc

pub left_at_once : (w : World) (id : ℕ) → id ≤ w.station.last_id → (event : Event) → Leaving w id event → HasLeft (world_after w event) id
unfolding world_after reply_to outcome
left_at_once w id given event (AsClient no_relay) = client_at_once w id given (has_relay w id) no_relay
left_at_once w id given event (AsRelay noted) = relay_at_once w id given (has_relay w id) noted

pub has_left : (settings : Settings) (lists : Lists) (events : List Event) (id : ℕ) → id ≤ (run_after settings lists events).station.last_id
    → (event : Event) → Leaving (run_after settings lists events) id event → HasLeft (run_after settings lists (events ++ event ∷ [])) id
has_left settings lists events id given event leaving =
    subst (λ (x : World). HasLeft x id) (sym (after_joined _ events (event ∷ []))) (left_at_once (run_after settings lists events) id given event leaving)

-- whatever happens in its name is out of place
module _ (w : World) (id : ℕ) (unknown : standing_of w id ≡ Unknown) where
  either_stray : (b : Bool) → unless_relayed b (says Stray Nothing) ≡ says Stray Nothing
  either_stray true = refl
  either_stray false = refl

  neither_noted : (b : Bool) → (if b then says Stray Nothing else says Stray Nothing) ≡ says Stray Nothing
  neither_noted true = refl
  neither_noted false = refl

  his_standing : (him : ℕ) → Some him ≡ Some id → standing_of w him ≡ Unknown
  his_standing him e = let same : him ≡ id = cc in ap (standing_of w) same ∙ unknown

  -- by whatever path it asks
  asks_out_of_place : (asked : ListenRequest) → standing_of w asked.id ≡ Unknown → (path : Option WebPath) → asks_by w asked path ≡ says Stray Nothing
  asks_out_of_place asked e None = rw e refl
  asks_out_of_place asked e (Some path) = rw e refl

  pub strays : (event : Event) → client_in event ≡ Some id → IsOutOfPlace w event
  unfolding outcome
  strays (Arrive peer) e = cc
  strays (Source asked) e = rw (his_standing asked.id e) refl
  strays (Push him block) e = rw (his_standing him e) refl
  strays (SourceEnd him) e = rw (his_standing him e) refl
  strays (Title him text) e = rw (his_standing him e) refl
  strays (Listen asked) e = asks_out_of_place asked (his_standing asked.id e) (web_path w.station.settings.web asked.mount)
  strays (Draw him room) e = rw (his_standing him e) refl
  strays (Command asked) e = rw (his_standing asked.id e) refl
  strays (Leave him) e = rw (his_standing him e) (either_stray (has_relay w him))
  strays (RelayUp mount shown) e = cc
  strays (RelayDown him) e = rw (his_standing him e) (neither_noted (has_relay w him))
  strays (Clock ms) e = cc

-- numbers are not taken back
low_by : (w : World) (event : Event) (station : StationState) → StationStep w event station → w.station.last_id ≤ station.last_id
low_by w event station (IsAlike sets same) = omega (arith, same)
low_by w event station (GivesNumber sets next) = omega (arith, next)
low_by w event station (SetsFallback mount fallback c sets same) = omega (arith, same)

pub last_rises : (w : World) → IsSound w → (event : Event) → w.station.last_id ≤ (world_after w event).station.last_id
last_rises w s event = low_by w event (world_after w event).station (station_step w event)

-- what is of nobody else, and what brings nothing
pub his_own : {A : Type 0} (b : Bool) (brought : List A) → b ≡ true → brought ≡ (if b then brought else [])
his_own true brought e = refl
his_own false brought e = cc

pub with_nothing : {A : Type 0} (xs ys : List A) → ys ≡ [] → xs ≡ xs ++ ys
with_nothing xs ys e = sym (ap (λ zs. xs ++ zs) e ∙ append-nil xs)

module _ (w : World) (s : IsSound w) (event : Event) (id : ℕ) (left : HasLeft w id) where
  still_left : HasLeft (world_after w event) id
  unfolding world_after
  still_left =
      by_own event id
      (λ own. subst (λ (o : Outcome). HasLeft (changed w o.change) id) (sym (strays w id left.1 event own)) left)
      (λ other apart. beside (others_hold w s event id other)) where
        beside : StandsOn w event id → HasLeft (world_after w event) id
        beside (inl same) = let low = last_rises w s event in (omega (arith, low, left.0), same ∙ left.1)
        beside (inr (inl (rule, finishes))) = absurd (known_before w s event id rule finishes left.1)
        beside (inr (inr arrived)) = let above = ((replies_fit w s event).arrived id arrived).1 in absurd (omega (arith, above, left.0))

  nothing_handed : handed_at w event id ≡ []
  unfolding reply_to
  nothing_handed =
      by_own event id
      (λ own. nothing_of event id (data_in (reply_to w event)) (ap (λ (o : Outcome). data_in o.reply) (strays w id left.1 event own)))
      (λ other apart. not_of event id (data_in (reply_to w event)) apart)

  nothing_delivered : delivered_at w event id ≡ []
  nothing_delivered =
      by_own event id
      (λ own. nothing_of event id (block_in (outcome w event).change) (ap (λ (o : Outcome). block_in o.change) (strays w id left.1 event own)))
      (λ other apart. not_of event id (block_in (outcome w event).change) apart)

pub stays_gone : (w : World) → IsSound w → (events : List Event) (id : ℕ) → HasLeft w id → StaysGone w events id
stays_gone w s [] id left = record { is_gone = left; is_handed_nothing = refl; brings_nothing = refl }
stays_gone w s (event ∷ events) id left =
    let rest = stays_gone (world_after w event) (sound_after w s event) events id (still_left w s event id left) in
    record {
      is_gone = rest.is_gone;
      is_handed_nothing = ap (λ xs. xs ++ handed (world_after w event) events id) (nothing_handed w s event id left) ∙ rest.is_handed_nothing;
      brings_nothing = ap (λ xs. xs ++ delivered (world_after w event) events id) (nothing_delivered w s event id left) ∙ rest.brings_nothing;
    }
