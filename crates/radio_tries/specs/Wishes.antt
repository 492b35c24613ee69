-- Which relays are to stop, and which to start.
use Rattle.std.specs.Prelude.{◌≡◌, ℕ, Bool, not, is_some, List, [], ◌∷◌, ◌++◌, map, filter}
use Rattle.std.specs.Arc.{arc_value}
use Rattle.radio_relay.specs.declared.orders.RelayOrder.{RelayOrder}
use Rattle.radio_relay.specs.declared.orders.RelayOrder.TheVariants.{Start, Stop}
use Rattle.radio_relay.specs.Orders.{relay_at}
use Rattle.radio_settings_values.specs.declared.settings.RelaySetting.{RelaySetting}
use Rattle.radio_settings_values.specs.declared.settings.Settings.{Settings}
use Rattle.radio_tries.specs.declared.wishes.Sorted.{Sorted}

-- the mounts whose relays orders stop
abbrev pub stopped_by : List RelayOrder → List (List ℕ)
stopped_by [] = []
stopped_by (Stop mount ∷ orders) = mount ∷ stopped_by orders
stopped_by (Start relay ∷ orders) = stopped_by orders

-- the relays that they start
abbrev pub started_by : List RelayOrder → List RelaySetting
started_by [] = []
started_by (Stop mount ∷ orders) = started_by orders
started_by (Start relay ∷ orders) = relay ∷ started_by orders

-- a relay of a mount that the settings have a relay for; else it is of the slave's list
abbrev pub is_settings_relay : Settings → RelaySetting → Bool
is_settings_relay settings relay = is_some (relay_at settings relay.local_mount)

abbrev pub own_of : Settings → List RelayOrder → List RelaySetting
own_of settings orders = filter (is_settings_relay settings) (started_by orders)

abbrev pub other_started_relays : Settings → List RelayOrder → List RelaySetting
other_started_relays settings orders = filter (λ relay. not (is_settings_relay settings relay)) (started_by orders)

-- the relays of the settings come first, and then those of the list
-- rule: Relay places
abbrev pub in_order : Settings → List RelaySetting → List RelaySetting
in_order settings relays = filter (is_settings_relay settings) relays ++ filter (λ relay. not (is_settings_relay settings relay)) relays

-- what orders say, by its kind
pub record Sorts (settings : Settings) (orders : List RelayOrder) (sorted : Sorted) : Type 0 where
  pub stops : sorted.stops.items ≡ stopped_by orders
  pub own : map arc_value sorted.own.items ≡ own_of settings orders
  pub listed : map arc_value sorted.listed.items ≡ other_started_relays settings orders
