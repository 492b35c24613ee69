-- whose connection an event closes
use Rattle.std.proofs.Common.{◌≡◌, ◌⊎◌, inl, inr, ℕ, true, false, Some, refl}
use Rattle.radio_core.proofs.Words.{Event, Leave, RelayDown, client_in, Closes, OfClient, OfRelay, World, has_relay}

-- whose it is
pub closes_his : (w : World) (id : ℕ) (event : Event) → Closes w id event → client_in event ≡ Some id
closes_his w id event (OfClient no_relay) = refl
closes_his w id event (OfRelay relay) = refl

-- a client leaves by it, or a relay goes down
pub leaves_or_goes_down : (w : World) (id : ℕ) (event : Event) → Closes w id event
    → ((event ≡ Leave id) × (has_relay w id ≡ false)) ⊎ ((event ≡ RelayDown id) × (has_relay w id ≡ true))
leaves_or_goes_down w id event (OfClient no_relay) = inl (refl, no_relay)
leaves_or_goes_down w id event (OfRelay relay) = inr (refl, relay)
