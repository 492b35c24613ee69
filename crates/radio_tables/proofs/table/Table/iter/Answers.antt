use Rattle.std.proofs.Common.{subst}
use Rattle.std.specs.Prelude.{map}
use Rattle.std.specs.List.Sorted.{IsStrictlySortedBy}
use Rattle.radio_tables.proofs.EntryLemmas.{values-rising}
use Rattle.radio_tables.proofs.table.Table.iter.Goals as goal

pub returns-clause-rising : goal.returns-clause-rising
returns-clause-rising g c =
    subst (λ rows. IsStrictlySortedBy g.R.Key.Ord.cmp (map g.R.Row.key rows)) c.self.view_is (values-rising
    g.R.Key.Ord.cmp g.met.R.Key.Ord.total g.R.Row.key g.R.Row.has_key g.met.R.Row.has_key_is
    c.self.inside.rows.entries c.self.invariant.own c.self.invariant.rising)
