use Rattle.std.proofs.Common.{◌≡◌, ◌⊎◌, true, drop, ℕ, List}
use Rattle.radio_parts_station.proofs.Words.{is_prepared, feeds_on_demand}
use Rattle.radio_parts_station.proofs.waiting.prepare_each.Given as goal

-- what was prepared is, and each mount that these relays feed on demand is, or one does that is left
abbrev pub invariant-loop-relay : goal.invariant-loop-relay
invariant-loop-relay l =
    ((mount : List ℕ) → is_prepared l.initial.seats.prepared mount ≡ true → is_prepared l.seats.prepared mount ≡ true)
    × (l.seats.seats ≡ l.initial.seats.seats)
    × ((mount : List ℕ) → feeds_on_demand l.relays mount ≡ true
    → (is_prepared l.seats.prepared mount ≡ true) ⊎ (feeds_on_demand (drop l.relay-index l.relays) mount ≡ true))
    × (l.seats.live ≡ l.initial.seats.live)
