use Rattle.std.proofs.Common.{◌≡◌, map, take}
use Rattle.toml.specs.View.{table_view}
use Rattle.radio_settings.specs.Mounts.{mount_keys, mount_setting_of}
use Rattle.radio_settings.proofs.FaultLemmas.{AreWell}
use Rattle.radio_settings.proofs.mounts.mounts_in.Given as goal

abbrev pub invariant-loop-table : goal.invariant-loop-table
invariant-loop-table l =
    AreWell mount_keys (map (λ t. table_view t.now) l.tables) l.table-index
    × (l.mounts.items ≡ map (mount_setting_of l.access l.limits) (take l.table-index (map (λ t. table_view t.now) l.tables)))
