use Rattle.std.proofs.Common.{ap, sym, subst, ◌∙◌, not, find}
use Rattle.std.specs.Prelude.{filter}
use Rattle.std.specs.Map.{values_of}
use Rattle.radio_tables.specs.Entries.{AreOwn}
use Rattle.radio_tables.proofs.EntryLemmas.{lookup_finds, values-removed, own-removed}
use Rattle.radio_tables.proofs.table.Table.remove.Goals as goal

pub invariant_of-self : goal.invariant_of-self
invariant_of-self g c =
    record {
      own = subst (AreOwn g.R.Key.Ord.cmp g.R.Row.key) (sym c.remove.ensures.entries) (own-removed
          g.R.Key.Ord.cmp g.met.R.Key.Ord.total g.R.Row.key g.R.Row.has_key g.met.R.Row.has_key_is
          c.args.key.now c.self.inside.rows.entries c.self.invariant.own);
      rising = c.remove.ensures.ordered;
    }

pub returns-clause-removed : goal.returns-clause-removed
returns-clause-removed g c =
    ap values_of c.remove.ensures.entries
    ∙ values-removed g.R.Key.Ord.cmp g.met.R.Key.Ord.total g.R.Row.key g.R.Row.has_key g.met.R.Row.has_key_is
    c.args.key.now c.self.inside.rows.entries c.self.invariant.own c.self.invariant.rising
    ∙ ap (filter (λ row. not (g.R.Row.has_key c.args.key.now row))) c.self.view_is

pub returns-clause-value : goal.returns-clause-value
returns-clause-value g c =
    c.remove.ensures.value
    ∙ lookup_finds g.R.Key.Ord.cmp g.met.R.Key.Ord.total g.R.Row.key g.R.Row.has_key g.met.R.Row.has_key_is
    c.args.key.now c.self.inside.rows.entries c.self.invariant.own
    ∙ ap (find (g.R.Row.has_key c.args.key.now)) c.self.view_is
