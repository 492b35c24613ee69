-- the mount at which a walk ends, and the mounts on its way
use Rattle.std.proofs.Common.{◌≡◌, ℕ, zero, suc, ◌+◌, ◌<◌, Bool, true, false, ◌&&◌, ◌||◌, not, is_some, Option, Some, None, List, length}
use Rattle.std.proofs.Common.{refl, subst, arith}
use Rattle.radio_laws.proofs.Words.{if◌then◌else◌, option_map_or, nat_tests, Rule, FallbackDepth, Credentials, options_for, seats_at, Landing, Lands, Stops, Sight, is_full, is_full_for, found_at, stop_of, landing_at}
use Rattle.radio_laws.proofs.Words.{landing_here, next_mount, onward, walk, walks_ten, ListenRequest, sight_of, walks_to, fallback_of, Fallback, set_for, Session, World, IsFullAt, most_at, FallsBack, ByTheSettings}
use Rattle.radio_laws.proofs.Words.{ByACommand, PassesWalkOn, HasNoSource, IsFull, ComesBy, AtFirst, Next, heard_at}

-- as many sit there as may
pub full_at : (w : World) (mount : List ℕ) (limit : Option ℕ) → most_at w mount ≡ limit → is_full (length (seats_at w.seats mount)) limit ≡ true
    → IsFullAt w mount
full_at w mount None limited full = cc
full_at w mount (Some most) limited full = record { most = most; limited = limited; reached = grind (arith, nat_tests) }

pub none_there : (found : Option Session) → is_some found ≡ false → found ≡ None
none_there None e = refl
none_there (Some session) e = cc

pub both : (a b : Bool) → (a && b) ≡ true → (a ≡ true) × (b ≡ true)
both true true e = (refl, refl)
both true false e = cc
both false b e = cc

-- to which mount listeners fall back
pub falls_back : (w : World) (mount next : List ℕ) → fallback_of w.station mount ≡ Some next → FallsBack w mount next
falls_back w mount next e = by_found (set_for w.station.fallbacks mount) refl e where
  by_found : (found : Option Fallback) → set_for w.station.fallbacks mount ≡ found
      → option_map_or (λ (set : Fallback). set.fallback) found (options_for w.station.settings mount).listeners.fallback_mount ≡ Some next → FallsBack w mount next
  by_found None none goes = ByTheSettings goes none
  by_found (Some set) found goes = ByACommand set found goes

-- if they fall back to no mount, it has no fallback
pub falls_nowhere : (w : World) (mount : List ℕ) → ((next : List ℕ) → FallsBack w mount next → ⊥) → fallback_of w.station mount ≡ None
falls_nowhere w mount nowhere = by_fallback (fallback_of w.station mount) refl where
  by_fallback : (fallback : Option (List ℕ)) → fallback_of w.station mount ≡ fallback → fallback_of w.station mount ≡ None
  by_fallback None e = e
  by_fallback (Some next) e = absurd (nowhere next (falls_back w mount next e))

module _ (w : World) (pair : Option Credentials) where
  abbrev sight : Sight
  sight = sight_of w.station

  -- a mount passes a walk on to the next one by its settings
  hands_by : (mount next : List ℕ) (live full : Bool) → is_some (heard_at w.station mount) ≡ live → is_full_for sight w.seats mount ≡ full
      → (if not live || full && (options_for w.station.settings mount).listeners.fallback_when_full
      then fallback_of w.station mount else None) ≡ Some next → PassesWalkOn w mount next
  hands_by mount next false full l f e = HasNoSource (falls_back w mount next e) (none_there (heard_at w.station mount) l)
  hands_by mount next true true l f e = by_flag (options_for w.station.settings mount).listeners.fallback_when_full refl e where
    by_flag : (b : Bool) → (options_for w.station.settings mount).listeners.fallback_when_full ≡ b
        → (if b then fallback_of w.station mount else None) ≡ Some next → PassesWalkOn w mount next
    by_flag true set goes = IsFull (falls_back w mount next goes) set (full_at w mount (most_at w mount) refl f)
    by_flag false set goes = cc
  hands_by mount next true false l f e = cc

  goes_on : (mount next : List ℕ) → next_mount sight w.seats mount ≡ Some next → PassesWalkOn w mount next
  goes_on mount next e = hands_by mount next (is_some (heard_at w.station mount)) (is_full_for sight w.seats mount) refl refl e

  module _ (asked : List ℕ) where
    -- how a walk ends that may look at so many mounts
    pub data WalkEnds (most : ℕ) : Landing → Type 0 where
      LandsThere : (steps : ℕ) (to : List ℕ) → steps < most → ComesBy w asked steps to → stop_of (found_at sight w.seats to pair) ≡ None → WalkEnds most (Lands to)
      StopsThere : (steps : ℕ) (mount : List ℕ) (rule : Rule) → steps < most → ComesBy w asked steps mount
          → stop_of (found_at sight w.seats mount pair) ≡ Some rule → WalkEnds most (Stops rule)
      GoesTooFar : (mount : List ℕ) → ComesBy w asked most mount → WalkEnds most (Stops FallbackDepth)

    ends_here : (steps more : ℕ) (mount : List ℕ) → ComesBy w asked steps mount → (stop : Option Rule) → stop_of (found_at sight w.seats mount pair) ≡ stop
        → WalkEnds (steps + suc more) (landing_at mount stop)
    ends_here steps more mount comes None e = LandsThere steps mount (omega arith) comes e
    ends_here steps more mount comes (Some rule) e = StopsThere steps mount rule (omega arith) comes e

    ends_at : (left steps : ℕ) (mount : List ℕ) → ComesBy w asked steps mount → (next : Option (List ℕ)) → next_mount sight w.seats mount ≡ next
        → ((onto : List ℕ) → ComesBy w asked (suc steps) onto → WalkEnds (suc steps + left) (walk left sight w.seats pair onto))
        → WalkEnds (steps + suc left) (onward (walk left sight w.seats pair) (landing_here sight w.seats pair mount) next)
    ends_at left steps mount comes None e later = ends_here steps left mount comes (stop_of (found_at sight w.seats mount pair)) refl
    ends_at left steps mount comes (Some onto) e later =
        let same : suc steps + left ≡ steps + suc left = omega arith in
        subst (λ (n : ℕ). WalkEnds n (walk left sight w.seats pair onto)) same (later onto (Next steps mount onto comes (goes_on mount onto e)))

    ends_by : (left steps : ℕ) (mount : List ℕ) → ComesBy w asked steps mount → WalkEnds (steps + left) (walk left sight w.seats pair mount)
    ends_by zero steps mount comes =
        let same : steps ≡ steps + zero = omega arith in subst (λ (n : ℕ). WalkEnds n (Stops FallbackDepth)) same (GoesTooFar mount comes)
    ends_by (suc left) steps mount comes =
        ends_at left steps mount comes (next_mount sight w.seats mount) refl (λ onto comes_on. ends_by left (suc steps) onto comes_on)

    pub walk_ends : WalkEnds 10 (walks_to w.station w.seats asked pair)
    walk_ends = subst (λ (l : Landing). WalkEnds 10 l) (walks_ten sight w.seats pair asked) (ends_by 10 0 asked AtFirst)

-- a walk that lands has looked at no more than ten mounts
lands_by : (w : World) (pair : Option Credentials) (asked : List ℕ) (l : Landing) → WalkEnds w pair asked 10 l → (to : List ℕ) → l ≡ Lands to
    → (steps : ℕ) × (steps < 10) × ComesBy w asked steps to
lands_by w pair asked l (LandsThere steps there low comes none) to e =
    let same : there ≡ to = cc in (steps, low, subst (λ (m : List ℕ). ComesBy w asked steps m) same comes)
lands_by w pair asked l (StopsThere steps mount rule low comes stops) to e = cc
lands_by w pair asked l (GoesTooFar mount comes) to e = cc

pub lands_on_his_way : (w : World) (asked : ListenRequest) (to : List ℕ) → walks_to w.station w.seats asked.mount asked.pair ≡ Lands to
    → (steps : ℕ) × (steps < 10) × ComesBy w asked.mount steps to
lands_on_his_way w asked to e = lands_by w asked.pair asked.mount (walks_to w.station w.seats asked.mount asked.pair) (walk_ends w asked.pair asked.mount) to e
