use Rattle.std.proofs.Common.{ap, sym, subst, ◌∙◌}
use Rattle.std.specs.Map.{values_of}
use Rattle.std.specs.BTreeMap.{insert_entry}
use Rattle.radio_tables.specs.Entries.{AreOwn}
use Rattle.radio_tables.specs.Lists.{placed}
use Rattle.radio_tables.proofs.EntryLemmas.{values-placed, own-placed}
use Rattle.radio_tables.proofs.table.Table.insert.Goals as goal

pub invariant_of-self-2 : goal.invariant_of-self-2
invariant_of-self-2 g c =
    let es = c.self.inside.rows.entries in
    let written = c.in_ok-insert.ensures.entries ∙ ap (λ k. insert_entry g.R.Key.Ord.cmp es k c.args.row) c.key-key.ensures in
    record {
      own = subst (AreOwn g.R.Key.Ord.cmp g.R.Row.key) (sym written) (own-placed
          g.R.Key.Ord.cmp g.met.R.Key.Ord.total g.R.Row.key g.R.Row.has_key g.met.R.Row.has_key_is
          c.args.row es c.self.invariant.own);
      rising = c.in_ok-insert.ensures.ordered;
    }

pub returns-clause-ok : goal.returns-clause-ok
returns-clause-ok g c =
    let es = c.self.inside.rows.entries in
    ap values_of (c.in_ok-insert.ensures.entries ∙ ap (λ k. insert_entry g.R.Key.Ord.cmp es k c.args.row) c.key-key.ensures)
    ∙ values-placed g.R.Key.Ord.cmp g.met.R.Key.Ord.total g.R.Row.key g.R.Row.has_key g.met.R.Row.has_key_is c.args.row es c.self.invariant.own
    ∙ ap (placed (λ a b. g.R.Key.Ord.cmp (g.R.Row.key a) (g.R.Row.key b)) c.args.row) c.self.view_is
