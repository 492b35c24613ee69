use Rattle.std.proofs.Common.{◌≡◌, map, take}
use Rattle.radio_settings_values.proofs.mounts.names_of.Given as goal

abbrev pub invariant-loop-table : goal.invariant-loop-table
invariant-loop-table g l = l.names.items ≡ map g.T.Named.name_of (take l.table-index l.tables)
