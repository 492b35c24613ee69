-- what was set for a mount stays set until a command sets another
use Rattle.std.proofs.Common.{◌≡◌, ◌⊎◌, inl, inr, Option, ℕ, List, ap, subst, ◌∙◌}
use Rattle.radio_laws.proofs.Words.{by_name, SetFallback, Event, IsCommanded, world_after, Fallback, set_for, StationState, World, beside_set, FallbacksStay}
use Rattle.radio_laws.proofs.Ends.StationSteps.{StationStep, IsAlike, GivesNumber, SetsFallback, station_step}

module _ (w : World) (event : Event) (mount : List ℕ) (station : StationState) where
  abbrev set_in : List Fallback → Option Fallback
  set_in fallbacks = set_for fallbacks mount

  stays_by : StationStep w event station
      → (set_in station.fallbacks ≡ set_in w.station.fallbacks) ⊎ ((fallback : Option (List ℕ)) × IsCommanded w event (SetFallback mount fallback))
  stays_by (IsAlike same low) = inl (ap set_in same)
  stays_by (GivesNumber same next) = inl (ap set_in same)
  stays_by (SetsFallback at fallback c sets low) =
      by_name at mount
      (λ same. inr (fallback, subst (λ (m : List ℕ). IsCommanded w event (SetFallback m fallback)) same c))
      (λ apart. inl (ap set_in sets ∙ beside_set w.station.fallbacks at mount fallback apart))

pub fallbacks_stay : (w : World) (event : Event) → FallbacksStay w event
fallbacks_stay w event mount = stays_by w event mount (world_after w event).station (station_step w event)
