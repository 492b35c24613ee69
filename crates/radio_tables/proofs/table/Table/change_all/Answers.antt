use Rattle.std.proofs.Common.{ap, sym, subst, ◌∙◌, rules}
use Rattle.std.specs.Prelude.{map}
use Rattle.std.specs.Map.{values_of}
use Rattle.std.proofs.lemmas.Map.Made.{map_same_pairs}
use Rattle.radio_tables.specs.Entries.{AreOwn}
use Rattle.radio_tables.proofs.EntryLemmas.{values-mapped, own-mapped}
use Rattle.radio_tables.proofs.table.Table.change_all.Goals as goal

pub invariant_of-self : goal.invariant_of-self
invariant_of-self g c =
    let written = map_same_pairs _ (g.C.RowChange.gives c.args.change.now) _ (λ k v b w f' t. search rules) _ _ c.retain.ensures.filtered in
    record {
      own = subst (AreOwn g.R.Key.Ord.cmp g.R.Row.key) (sym written) (own-mapped
          g.R.Key.Ord.cmp g.met.R.Key.Ord.total g.R.Row.key g.R.Row.has_key g.met.R.Row.has_key_is
          (g.C.RowChange.gives c.args.change.now) (g.met.C.RowChange.keeps_key c.args.change.now) c.self.inside.rows.entries c.self.invariant.own);
      rising = c.retain.ensures.ordered;
    }

pub returns : goal.returns
returns g c =
    ap values_of (map_same_pairs _ (g.C.RowChange.gives c.args.change.now) _ (λ k v b w f' t. search rules) _ _ c.retain.ensures.filtered)
    ∙ values-mapped g.R.Key.Ord.cmp g.met.R.Key.Ord.total g.R.Row.key g.R.Row.has_key g.met.R.Row.has_key_is
    (g.C.RowChange.gives c.args.change.now) c.self.inside.rows.entries
    ∙ ap (map (g.C.RowChange.gives c.args.change.now)) c.self.view_is
