use Rattle.std.proofs.Common.{◌≡◌, map, take}
use Rattle.toml.specs.View.{table_view}
use Rattle.radio_settings.specs.Relays.{relay_keys, relay_setting_of}
use Rattle.radio_settings.proofs.FaultLemmas.{AreWell}
use Rattle.radio_settings.proofs.relays.relays_in.Given as goal

abbrev pub invariant-loop-table : goal.invariant-loop-table
invariant-loop-table l =
    AreWell relay_keys (map (λ t. table_view t.now) l.tables) l.table-index
    × (l.relays.items ≡ map relay_setting_of (take l.table-index (map (λ t. table_view t.now) l.tables)))
