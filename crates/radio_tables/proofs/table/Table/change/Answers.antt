use Rattle.std.proofs.Common.{◌≡◌, None, ap, sym, subst, ◌∙◌}
use Rattle.std.specs.Map.{lookup, set_value, values_of}
use Rattle.std.specs.BTreeMap.{is_at}
use Rattle.radio_tables.specs.Entries.{AreOwn}
use Rattle.radio_tables.specs.Lists.{update_first}
use Rattle.radio_tables.proofs.EntryLemmas.{values-changed, values-unchanged, own-changed}
use Rattle.radio_tables.proofs.table.Table.change.Goals as goal

pub returns-in_default : goal.returns-in_default
returns-in_default g c =
    let none : lookup (is_at (g.R.Key.Ord.cmp c.args.key.now)) c.self.inside.rows.entries ≡ None = sym c.in_default.ensures.value in
    ap values_of (ap (λ m. m.entries) c.get_mut.follows.holds-at-none)
    ∙ values-unchanged g.R.Key.Ord.cmp g.met.R.Key.Ord.total g.R.Row.key g.R.Row.has_key g.met.R.Row.has_key_is
    c.args.key.now (g.C.RowChange.gives c.args.change.now) c.self.inside.rows.entries c.self.invariant.own none
    ∙ ap (update_first (g.R.Row.has_key c.args.key.now) (g.C.RowChange.gives c.args.change.now)) c.self.view_is

pub invariant_of-self-2 : goal.invariant_of-self-2
invariant_of-self-2 g c =
    let test = is_at (g.R.Key.Ord.cmp c.args.key.now) in
    let es = c.self.inside.rows.entries in
    let written = (c.get_mut.follows.holds c.apply.new.row).0 ∙ ap (set_value test es) c.apply.ensures in
    let same_key = g.met.C.RowChange.keeps_key c.args.change.now c.in-Some.row.now in
    record {
      own = subst (AreOwn g.R.Key.Ord.cmp g.R.Row.key) (sym written) (own-changed
          g.R.Key.Ord.cmp g.met.R.Key.Ord.total g.R.Row.key g.R.Row.has_key g.met.R.Row.has_key_is
          c.args.key.now (g.C.RowChange.gives c.args.change.now) c.in-Some.row.now same_key es c.self.invariant.own (sym c.in-Some.ensures.value));
      rising = (c.get_mut.follows.holds c.apply.new.row).4;
    }

pub returns : goal.returns
returns g c =
    let test = is_at (g.R.Key.Ord.cmp c.args.key.now) in
    let es = c.self.inside.rows.entries in
    ap values_of ((c.get_mut.follows.holds c.apply.new.row).0 ∙ ap (set_value test es) c.apply.ensures)
    ∙ values-changed g.R.Key.Ord.cmp g.met.R.Key.Ord.total g.R.Row.key g.R.Row.has_key g.met.R.Row.has_key_is
    c.args.key.now (g.C.RowChange.gives c.args.change.now) c.in-Some.row.now es c.self.invariant.own (sym c.in-Some.ensures.value)
    ∙ ap (update_first (g.R.Row.has_key c.args.key.now) (g.C.RowChange.gives c.args.change.now)) c.self.view_is
