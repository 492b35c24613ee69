-- mounts that relays feed on demand are prepared as long as there are listeners, after each change
use Rattle.std.proofs.Common.{◌≡◌, Bool, true, false, ℕ, ◌<◌, ◌≤◌, List, [], ◌∷◌, length, not, refl, ap, sym, ◌∙◌, arith, Option, Some, None}
use Rattle.radio_parts_changes.proofs.Words.{◌&&◌, filter, if◌then◌else◌, is_some, bytes_eq, length-map, update_first, Settings, Listener, is_prepared, Listening, Move, carried, Sight, LiveArePrepared, StationState}
use Rattle.radio_parts_changes.proofs.Words.{is_on_demand, heard_at, silence_at, silence_of, session_of, Session, option_or, still_prepared}
use Rattle.radio_tables.proofs.KeyLaws.{by_name}
use Rattle.radio_fallback.proofs.FaresLemmas.{numbers_kept}
use Rattle.radio_parts_changes.specs.Prepared.{OnDemandArePrepared}

-- of as many listeners, or fewer
pub fewer_seated : (settings : Settings) (now later : Listening) (seats : List Listener) → later ≡ record now { seats = seats }
    → length seats ≤ length now.seats → OnDemandArePrepared settings now → OnDemandArePrepared settings later
fewer_seated settings now later seats is fewer are = record {
  each = λ some mount on.
      ap (λ (b : Listening). is_prepared b.prepared mount) is
      ∙ are.each (let many = ap (λ (b : Listening). length b.seats) is in omega (arith, some, fewer, many)) mount on;
}

-- how many there are
module _ {X : Type 0} (p : X → Bool) where
  updated_at : (f : X → X) (x : X) (xs : List X) (b : Bool) → length (update_first p f xs) ≡ length xs
      → length (if b then f x ∷ xs else x ∷ update_first p f xs) ≡ length (x ∷ xs)
  updated_at f x xs true e = refl
  updated_at f x xs false e = omega (arith, e)

  pub as_many_updated : (f : X → X) (xs : List X) → length (update_first p f xs) ≡ length xs
  as_many_updated f [] = refl
  as_many_updated f (x ∷ xs) = updated_at f x xs (p x) (as_many_updated f xs)

  filtered_at : (x : X) (xs : List X) (b : Bool) → length (filter p xs) ≤ length xs → length (if b then x ∷ filter p xs else filter p xs) ≤ length (x ∷ xs)
  filtered_at x xs true h = omega (arith, h)
  filtered_at x xs false h = omega (arith, h)

  pub no_more_filtered : (xs : List X) → length (filter p xs) ≤ length xs
  no_more_filtered [] = omega arith
  no_more_filtered (x ∷ xs) = filtered_at x xs (p x) (no_more_filtered xs)

pub as_many_carried : (sight : Sight) (move : Move) (seats : List Listener) → length (carried sight move seats).seats ≡ length seats
as_many_carried sight move seats =
    sym (length-map (carried sight move seats).seats (λ (l : Listener). l.id)) ∙ ap length (numbers_kept sight move seats)
    ∙ length-map seats (λ (l : Listener). l.id)

-- a mount that nothing is to be heard at is released
pub unheard_released : (station : StationState) (now later : Listening) (name : List ℕ) (nobody : Bool) → is_some (heard_at station name) ≡ false
    → ((mount : List ℕ) → is_prepared later.prepared mount ≡ (is_prepared now.prepared mount && not (bytes_eq name mount && nobody)))
    → later.seats ≡ now.seats → OnDemandArePrepared station.settings now → OnDemandArePrepared station.settings later
unheard_released station now later name nobody unheard released same are = record {
  each = λ some mount on.
      released mount ∙ by_name name mount
      (λ here. let heard : is_some (heard_at station name) ≡ true = on_demand_heard (ap (is_on_demand station.settings) here ∙ on) in cc)
      (λ apart. rw (are.each (let many = ap length same in omega (arith, some, many)) mount on, apart) refl);
} where
  open_by : (found : Option Session) (b : Bool) → b ≡ true → is_some (option_or found (if b then Some (silence_at station name) else None)) ≡ true
  open_by None true e = refl
  open_by None false e = cc
  open_by (Some session) b e = refl

  on_demand_heard : is_on_demand station.settings name ≡ true → is_some (heard_at station name) ≡ true
  on_demand_heard e = open_by (session_of station.live name) (is_on_demand station.settings name) e

-- wherever a walk can land is prepared
pub heard_prepared : (station : StationState) (now : Listening) (mount : List ℕ) → 0 < length now.seats → LiveArePrepared station.live now.prepared
    → OnDemandArePrepared station.settings now → is_some (heard_at station mount) ≡ true → is_prepared now.prepared mount ≡ true
heard_prepared station now mount some live on_demand heard = by_found (session_of station.live mount) refl heard where
  by_test : (b : Bool) → is_on_demand station.settings mount ≡ b → is_some (if b then Some (silence_at station mount) else None) ≡ true
      → is_prepared now.prepared mount ≡ true
  by_test true on h = on_demand.each some mount on
  by_test false on h = cc

  by_found : (found : Option Session) → session_of station.live mount ≡ found → is_some (option_or found (silence_of station mount)) ≡ true
      → is_prepared now.prepared mount ≡ true
  by_found None none h = by_test (is_on_demand station.settings mount) refl h
  by_found (Some session) there h = live.each mount (ap is_some there)

-- nobody is carried along where nobody listens
pub nobody_carried : (sight : Sight) (move : Move) (seats : List Listener) → length seats ≡ 0 → (carried sight move seats) ≡ record {
  seats = seats;
  counts = record { moved = 0; ended = 0 };
}
nobody_carried sight move [] e = refl
nobody_carried sight move (x ∷ xs) e = cc

-- both: each live mount is prepared, and as long as there are listeners, so is each that a relay feeds on demand
abbrev pub AllPrepared : Settings → Listening → Type 0
AllPrepared settings now = LiveArePrepared now.live now.prepared × OnDemandArePrepared settings now

-- the seats have changed, and there are as many listeners, or fewer
pub seats_changed : (settings : Settings) (now later : Listening) (seats : List Listener) → later ≡ record now { seats = seats }
    → length seats ≤ length now.seats → AllPrepared settings now → AllPrepared settings later
seats_changed settings now later seats is fewer are = (
  still_prepared now.live later.live now.prepared later.prepared (ap (λ (l : Listening). l.live) is) (ap (λ (l : Listening). l.prepared) is) are.0,
  fewer_seated settings now later seats is fewer are.1,
)

-- more is prepared
pub more_is_prepared : (settings : Settings) (now later : Listening) → later.seats ≡ now.seats → later.live ≡ now.live
    → ((mount : List ℕ) → is_prepared now.prepared mount ≡ true → is_prepared later.prepared mount ≡ true) → AllPrepared settings now
    → AllPrepared settings later
more_is_prepared settings now later same same_live more are = (
  record { each = λ mount lives. more mount (are.0.each mount (ap (λ (live : List Session). is_some (session_of live mount)) (sym same_live) ∙ lives)) },
  record { each = λ some mount on. more mount (are.1.each (let many = ap length same in omega (arith, some, many)) mount on) },
)

-- the sessions have changed
pub live_changed : (settings other : Settings) (now later : Listening) (live : List Session) → other ≡ settings → later ≡ record now { live = live }
    → LiveArePrepared live now.prepared → OnDemandArePrepared settings now → AllPrepared other later
live_changed settings other now later live same is prepared are = (
  still_prepared live later.live now.prepared later.prepared (ap (λ (l : Listening). l.live) is) (ap (λ (l : Listening). l.prepared) is) prepared,
  record {
    each = λ some mount on.
        ap (λ (l : Listening). is_prepared l.prepared mount) is
        ∙ are.each (let many = ap (λ (l : Listening). length l.seats) is in omega (arith, some, many)) mount
        (ap (λ (set : Settings). is_on_demand set mount) (sym same) ∙ on);
  },
)

-- a mount that nothing is to be heard at has no session
pub unheard_idle : (station : StationState) (mount : List ℕ) → is_some (heard_at station mount) ≡ false → session_of station.live mount ≡ None
unheard_idle station mount unheard = by_found (session_of station.live mount) unheard where
  by_found : (found : Option Session) → is_some (option_or found (silence_of station mount)) ≡ false → found ≡ None
  by_found None e = refl
  by_found (Some session) e = cc

pub some_listen : (seats : List Listener) (many : ℕ) → many ≡ length seats → (many ≡ 0 → ⊥) → 0 < length seats
some_listen [] many is some = absurd (some is)
some_listen (listener ∷ seats) many is some = omega arith
