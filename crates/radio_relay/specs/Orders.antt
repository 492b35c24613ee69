-- Which relays are to start, and which are to stop.
use Rattle.std.specs.Prelude.{ℕ, Bool, true, false, not, ◌&&◌, ◌||◌, is_none, List, [], ◌∷◌, map, find, Option, None, Some, if◌then◌else◌}
use Rattle.std.specs.BTreeMap.{is_at}
use Rattle.std.specs.List.{flat_map, list_any}
use Rattle.std.specs.Option.{option_map}
use Rattle.std.specs.Str.{bytes_eq}
use Rattle.radio_settings_values.specs.declared.settings.MountSetting.{MountSetting}
use Rattle.radio_settings_values.specs.declared.settings.RelaySetting.{RelaySetting}
use Rattle.radio_settings_values.specs.declared.settings.Settings.{Settings}
use Rattle.radio_settings_values.specs.declared.settings.SlaveSetting.{SlaveSetting}
use Rattle.radio_relay.specs.declared.orders.RelayOrder.{RelayOrder}
use Rattle.radio_relay.specs.declared.orders.RelayOrder.TheVariants.{Start, Stop}
use Rattle.radio_relay.specs.StreamList.{name_order, with_one}

-- the name is one of these
abbrev pub has_name : List (List ℕ) → List ℕ → Bool
has_name names name = list_any (λ n. bytes_eq n name) names

-- the same of names in order
abbrev pub is_among_names : List (List ℕ) → List ℕ → Bool
is_among_names names name = list_any (is_at (name_order name)) names

-- the relay of the settings that feeds a mount
abbrev pub relay_at : Settings → List ℕ → Option RelaySetting
relay_at settings mount = find (λ (relay : RelaySetting). bytes_eq relay.local_mount mount) settings.relays

-- the settings have no table for the mount
abbrev pub has_no_table : Settings → List ℕ → Bool
has_no_table settings mount = is_none (find (λ (table : MountSetting). bytes_eq table.name mount) settings.mounts)

-- A relay is always wished, unless it is on demand. Then it is wished while its mount is wanted.
abbrev pub is_wished : List (List ℕ) → RelaySetting → Bool
is_wished wanted relay = not relay.on_demand || has_name wanted relay.local_mount

-- a slave's relay of a name that its master lists
abbrev pub relay_listed : List ℕ → SlaveSetting → RelaySetting
relay_listed name slave = record { master = slave.master; mount = name; local_mount = name; login = None; on_demand = false }

-- the relay of a listed name, if there is a slave and no table of that name
abbrev pub listed_at : Settings → List (List ℕ) → List ℕ → Option RelaySetting
listed_at settings list mount =
    if is_among_names list mount && has_no_table settings mount then option_map (relay_listed mount) settings.slave else None

-- the relay that is wished at a mount: the settings' own, or else the listed one
abbrev pub wished_of : Settings → List (List ℕ) → List (List ℕ) → List ℕ → Option RelaySetting → Option RelaySetting
wished_of settings list wanted mount None = listed_at settings list mount
wished_of settings list wanted mount (Some relay) = if is_wished wanted relay then Some relay else None

abbrev pub wished_at : Settings → List (List ℕ) → List (List ℕ) → List ℕ → Option RelaySetting
wished_at settings list wanted mount = wished_of settings list wanted mount (relay_at settings mount)

-- the order for a mount, by what is wished there and whether a relay feeds it
abbrev pub order_of : List ℕ → Option RelaySetting → Bool → List RelayOrder
order_of mount (Some relay) false = Start relay ∷ []
order_of mount (Some relay) true = []
order_of mount None true = Stop mount ∷ []
order_of mount None false = []

abbrev pub order_at : Settings → List (List ℕ) → List (List ℕ) → List (List ℕ) → List ℕ → List RelayOrder
order_at settings list live wanted mount = order_of mount (wished_at settings list wanted mount) (has_name live mount)

-- names in order, with others each at its place, once
abbrev pub with_other_names : List (List ℕ) → List (List ℕ) → List (List ℕ)
with_other_names names [] = names
with_other_names names (name ∷ others) = with_other_names (with_one names name) others

-- the mounts that relays of the settings feed
abbrev pub relayed_mounts : List RelaySetting → List (List ℕ)
relayed_mounts relays = map (λ (relay : RelaySetting). relay.local_mount) relays

-- all mounts that relays may feed, and those that they feed, in order
abbrev pub mounts_in_question : Settings → List (List ℕ) → List (List ℕ) → List (List ℕ)
mounts_in_question settings list live = with_other_names (with_other_names list (relayed_mounts settings.relays)) live

-- the orders, mount for mount
-- rule: Pulled relays
unfoldable pub orders : Settings → List (List ℕ) → List (List ℕ) → List (List ℕ) → List RelayOrder
orders settings list live wanted = flat_map (order_at settings list live wanted) (mounts_in_question settings list live)
