-- a walk sees the same, and listeners are carried along alike, where only a queue is kept of each stream
use Rattle.std.proofs.Common.{◌≡◌, Bool, true, false, ℕ, Option, Some, None, is_some, List, refl, ap, ◌∙◌}
use Rattle.radio_core.proofs.Words.{fun_ext, if◌then◌else◌, option_map, option_map_or, option_or, options_for, lets_in, Each, Move, Up, Sight, carried, StationState, carried_along, called_home, sight_of, live_number}
use Rattle.radio_core.proofs.Words.{live_end, fallback_of, kept_session, kept_of, Session, session_of, HasRisingStarts, World, kept_found, kept_ends, heard_at, is_on_demand, silence_at, silence_of}

is_some_mapped : {A B : Type 0} (f : A → B) (found : Option A) → is_some (option_map f found) ≡ is_some found
is_some_mapped f None = refl
is_some_mapped f (Some x) = refl

module _ (w : World) (rise : Each HasRisingStarts w.station.live) where
  abbrev queue : ℕ
  queue = w.station.settings.limits.queue_size

  abbrev kept_station : StationState
  kept_station = (kept_of w).station

  pub has_session : (mount : List ℕ) → is_some (session_of kept_station.live mount) ≡ is_some (session_of w.station.live mount)
  has_session mount = ap is_some (kept_found queue w.station.live mount) ∙ is_some_mapped (kept_session queue) (session_of w.station.live mount)

  -- each mount has the same session for its listeners, but only a queue of its stream is kept
  pub heard_kept : (mount : List ℕ) → heard_at kept_station mount ≡ option_map (kept_session queue) (heard_at w.station mount)
  heard_kept mount =
      ap (λ (found : Option Session). option_or found (silence_of w.station mount)) (kept_found queue w.station.live mount)
      ∙ by_found (session_of w.station.live mount) where
        by_test : (b : Bool) → (if b then Some (silence_at w.station mount) else None)
            ≡ option_map (kept_session queue) (if b then Some (silence_at w.station mount) else None)
        by_test true = refl
        by_test false = refl

        by_found : (found : Option Session) → option_or (option_map (kept_session queue) found) (silence_of w.station mount)
            ≡ option_map (kept_session queue) (option_or found (silence_of w.station mount))
        by_found None = by_test (is_on_demand w.station.settings mount)
        by_found (Some session) = refl

  is_heard_alike : (mount : List ℕ) → is_some (heard_at kept_station mount) ≡ is_some (heard_at w.station mount)
  is_heard_alike mount = ap is_some (heard_kept mount) ∙ is_some_mapped (kept_session queue) (heard_at w.station mount)

  same_number : (mount : List ℕ) → live_number kept_station mount ≡ live_number w.station mount
  same_number mount = ap number_in (kept_found queue w.station.live mount) ∙ by_found (session_of w.station.live mount) where
    number_in : Option Session → ℕ
    number_in found = option_map_or (λ (session : Session). session.number) found 0

    by_found : (found : Option Session) → number_in (option_map (kept_session queue) found) ≡ number_in found
    by_found None = refl
    by_found (Some session) = refl

  pub same_sight : sight_of (kept_of w).station ≡ sight_of w.station
  same_sight =
      ap (λ (is_live : List ℕ → Bool). sight is_live (live_number kept_station) (live_end kept_station)) (fun_ext is_heard_alike)
      ∙ ap (λ (number : List ℕ → ℕ). sight (is_live_in w.station) number (live_end kept_station)) (fun_ext same_number)
      ∙ ap (sight (is_live_in w.station) (live_number w.station)) (fun_ext (λ mount. kept_ends queue w.station.live mount rise)) where
        is_live_in : StationState → List ℕ → Bool
        is_live_in station mount = is_some (heard_at station mount)

        sight : (List ℕ → Bool) → (List ℕ → ℕ) → (List ℕ → ℕ) → Sight
        sight is_live number end = record {
          is_live = is_live;
          limit = λ mount. (options_for w.station.settings mount).listeners.max_listeners;
          lets_in = lets_in w.station.lists;
          allows_duplicates = λ mount. (options_for w.station.settings mount).users.allow_duplicate_users;
          fallback = fallback_of w.station;
          hands_on_when_full = λ mount. (options_for w.station.settings mount).listeners.fallback_when_full;
          stream_end = λ mount. record { session = number mount; place = end mount };
        }

  pub carried_alike : (move : Move) → carried_along (kept_of w) move ≡ kept_of (carried_along w move)
  carried_alike move = ap (λ (sight : Sight). record (kept_of w) { seats = (carried sight move w.seats).seats }) same_sight

  pub called_alike : (mount : List ℕ) → called_home (kept_of w) mount ≡ kept_of (called_home w mount)
  called_alike mount = by_test (options_for w.station.settings mount).listeners.fallback_override where
    by_test : (b : Bool) → (if b then carried_along (kept_of w) (Up mount) else kept_of w) ≡ kept_of (if b then carried_along w (Up mount) else w)
    by_test true = carried_alike (Up mount)
    by_test false = refl
