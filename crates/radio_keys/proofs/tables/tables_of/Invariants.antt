use Rattle.std.proofs.Common.{map}
use Rattle.toml.specs.View.{table_view}
use Rattle.radio_keys.proofs.TableLemmas.{AreRead}
use Rattle.radio_keys.proofs.tables.tables_of.Given as goal

abbrev pub invariant-loop-value : goal.invariant-loop-value
invariant-loop-value l = AreRead l.values l.value-index (map (λ t. table_view t.now) l.tables.items)
