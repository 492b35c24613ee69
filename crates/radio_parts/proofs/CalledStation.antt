-- A session that calls its listeners home changes nothing but the listeners.
use Rattle.std.proofs.Common.{◌≡◌, Bool, true, false, ℕ, List, refl}
use Rattle.radio_parts.proofs.Words.{if◌then◌else◌, carried_along, called_home, World}
use Rattle.radio_settings_values.specs.Options.{options_for}
use Rattle.radio_fallback.specs.declared.moves.Move.TheVariants.{Up}

pub station_called : (w : World) (mount : List ℕ) → (called_home w mount).station ≡ w.station
station_called w mount = by_test (options_for w.station.settings mount).listeners.fallback_override where
  by_test : (b : Bool) → (if b then carried_along w (Up mount) else w).station ≡ w.station
  by_test true = refl
  by_test false = refl
