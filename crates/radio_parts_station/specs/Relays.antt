-- The relays that are there.
use Rattle.std.specs.Prelude.{ℕ, Bool, ◌==◌, List, Option, Some, None, find, filter, not}
use Rattle.std.specs.declared.cmp.Ordering.{Ordering}
use Rattle.std.specs.Ordering.{nat_cmp}
use Rattle.radio_policy.specs.declared.rule.Rule.{Rule}
use Rattle.radio_parts_station.specs.declared.relays.RelayState.{RelayState}
use Rattle.radio_parts_station.specs.declared.relays.RelayState.TheVariants.{Feeds, Ended}
use Rattle.radio_tables.specs.Lists.{update_first, placed}

-- a relay that has come up and has not gone down
-- rule: Relay is no client
pub record Relay : Type 0 where
  pub id : ℕ
  -- what it does
  pub state : RelayState

-- a relay that has come up on the mount now
-- rule: Relay is no client
abbrev pub risen : ℕ → List ℕ → Relay
risen id mount = record { id = id; state = Feeds mount }

abbrev pub is_relay : ℕ → Relay → Bool
is_relay id relay = relay.id == id

-- the relay of this number, if it is there
abbrev pub relay_of : List Relay → ℕ → Option Relay
relay_of relays id = find (is_relay id) relays

-- relays are in the order of their numbers
abbrev pub in_order_of_number : Relay → Relay → Ordering
in_order_of_number a b = nat_cmp a.id b.id

-- one relay more
abbrev pub with_relay : List Relay → Relay → List Relay
with_relay relays relay = placed in_order_of_number relay relays

abbrev pub doing : RelayState → Relay → Relay
doing state relay = record relay { state = state }

abbrev pub relay_ended : Rule → Relay → Relay
relay_ended rule relay = doing (Ended rule) relay

-- the rule has finished the relay of this number
-- rule: Relay goes down
abbrev pub with_relay_ended : List Relay → ℕ → Rule → List Relay
with_relay_ended relays id rule = update_first (is_relay id) (relay_ended rule) relays

-- the relay of this number is gone
-- rule: Relay goes down
abbrev pub without_relay : List Relay → ℕ → List Relay
without_relay relays id = filter (λ relay. not (is_relay id relay)) relays

-- the relay of this number is as it was: it does what it did, or is not there
abbrev pub put_back : List Relay → ℕ → Option RelayState → List Relay
put_back relays id None = without_relay relays id
put_back relays id (Some state) = update_first (is_relay id) (doing state) relays
