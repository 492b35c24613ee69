-- mounts that relays feed on demand
use Rattle.std.proofs.Common.{◌≡◌, ◌⊎◌, inl, inr, Bool, true, false, ℕ, Some, List, ◌∷◌, refl}
use Rattle.radio_parts_station.proofs.Words.{find, if◌then◌else◌, option_map_or, bytes_eq, RelaySetting, feeds_on_demand}
use Rattle.std.proofs.lemmas.Slice.Eq.{bytes_eq-Decides}

-- the first relay feeds the mount on demand, or another does
pub first_or_other : (relay : RelaySetting) (relays : List RelaySetting) (mount : List ℕ) → feeds_on_demand (relay ∷ relays) mount ≡ true
    → ((relay.on_demand ≡ true) × (relay.local_mount ≡ mount)) ⊎ (feeds_on_demand relays mount ≡ true)
first_or_other relay relays mount feeds = by_test (bytes_eq relay.local_mount mount) refl feeds where
  by_test : (b : Bool) → bytes_eq relay.local_mount mount ≡ b
      → option_map_or (λ (r : RelaySetting). r.on_demand) (if b then Some relay else find (λ (r : RelaySetting). bytes_eq r.local_mount mount) relays) false ≡ true
      → ((relay.on_demand ≡ true) × (relay.local_mount ≡ mount)) ⊎ (feeds_on_demand relays mount ≡ true)
  by_test true e h = inl (h, (bytes_eq-Decides relay.local_mount mount).0 e)
  by_test false e h = inr h
