-- By which mounts a walk comes, in the words of the settings and of what commands have set.
use Rattle.std.specs.Prelude.{◌≡◌, ℕ, suc, true, List, Some, None}
use Rattle.radio_settings_values.specs.Options.{options_for}
use Rattle.radio_parts_station.specs.Fallbacks.{Fallback, set_for}
use Rattle.radio_parts_station.specs.World.{World}
use Rattle.radio_laws.specs.Limits.{IsFullAt}
use Rattle.radio_parts_station.specs.Waiting.{heard_at}

-- the listeners of the mount fall back to the next one: a command has set it, or `fallback-mount` names it and no command set another
-- rule: Fallback of a mount
pub data FallsBack (w : World) (mount next : List ℕ) : Type 0 where
  ByTheSettings : (options_for w.station.settings mount).listeners.fallback_mount ≡ Some next → set_for w.station.fallbacks mount ≡ None → FallsBack w mount next
  ByACommand : (set : Fallback) → set_for w.station.fallbacks mount ≡ Some set → set.fallback ≡ Some next → FallsBack w mount next

-- a walk goes on from the mount to the next one, to which its listeners fall back. The mount has no source and waits for none, or it is full
-- and `fallback-when-full` is set
-- rule: Passing a walk on; End at a waiting mount
pub data PassesWalkOn (w : World) (mount next : List ℕ) : Type 0 where
  HasNoSource : FallsBack w mount next → heard_at w.station mount ≡ None → PassesWalkOn w mount next
  IsFull : FallsBack w mount next
      → (options_for w.station.settings mount).listeners.fallback_when_full ≡ true → IsFullAt w mount → PassesWalkOn w mount next

-- a walk from the mount comes by another one, as the first, the second and so on after it
-- rule: Fallback depth
pub data ComesBy (w : World) (mount : List ℕ) : ℕ → List ℕ → Type 0 where
  AtFirst : ComesBy w mount 0 mount
  Next : (steps : ℕ) (here next : List ℕ) → ComesBy w mount steps here → PassesWalkOn w here next → ComesBy w mount (suc steps) next
