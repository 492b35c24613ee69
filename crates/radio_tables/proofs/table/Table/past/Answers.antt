use Rattle.std.proofs.Common.{◌≡◌, Some, None, ap, sym, subst, ◌∙◌}
use Rattle.std.specs.Prelude.{map, find}
use Rattle.std.specs.Ordering.{is_lt}
use Rattle.std.specs.List.Sorted.{IsStrictlySortedBy}
use Rattle.radio_tables.proofs.EntryLemmas.{values-rising, first_value, first_past}
use Rattle.radio_tables.proofs.table.Table.past.Goals as goal

pub returns-in-Some-clause-next : goal.returns-in-Some-clause-next
returns-in-Some-clause-next g c =
    subst (λ rows. Some c.in-Some.row.now ≡ find (λ row. is_lt (g.R.Key.Ord.cmp c.args.key.now (g.R.Row.key row))) rows) c.self.view_is
    (sym (first_past g.R.Key.Ord.cmp g.met.R.Key.Ord.total g.R.Row.key g.R.Row.has_key g.met.R.Row.has_key_is
    c.args.key.now c.self.inside.rows.entries c.self.invariant.own
    ∙ ap (first_value g.R.Key.Ord.cmp g.met.R.Key.Ord.total g.R.Row.key g.R.Row.has_key g.met.R.Row.has_key_is) (sym (c.range-rows.ensures.between tt) ∙ c.in-Some.ensures.steps)))

pub returns-in-Some-clause-rising : goal.returns-in-Some-clause-rising
returns-in-Some-clause-rising g c =
    subst (λ rows. IsStrictlySortedBy g.R.Key.Ord.cmp (map g.R.Row.key rows)) c.self.view_is (values-rising
    g.R.Key.Ord.cmp g.met.R.Key.Ord.total g.R.Row.key g.R.Row.has_key g.met.R.Row.has_key_is
    c.self.inside.rows.entries c.self.invariant.own c.self.invariant.rising)

pub returns-in-None-clause-next : goal.returns-in-None-clause-next
returns-in-None-clause-next g c =
    subst (λ rows. None ≡ find (λ row. is_lt (g.R.Key.Ord.cmp c.args.key.now (g.R.Row.key row))) rows) c.self.view_is
    (sym (first_past g.R.Key.Ord.cmp g.met.R.Key.Ord.total g.R.Row.key g.R.Row.has_key g.met.R.Row.has_key_is
    c.args.key.now c.self.inside.rows.entries c.self.invariant.own
    ∙ ap (first_value g.R.Key.Ord.cmp g.met.R.Key.Ord.total g.R.Row.key g.R.Row.has_key g.met.R.Row.has_key_is) (sym (c.range-rows.ensures.between tt) ∙ c.in-None.ensures.steps.0)))

pub returns-in-None-clause-rising : goal.returns-in-None-clause-rising
returns-in-None-clause-rising g c =
    subst (λ rows. IsStrictlySortedBy g.R.Key.Ord.cmp (map g.R.Row.key rows)) c.self.view_is (values-rising
    g.R.Key.Ord.cmp g.met.R.Key.Ord.total g.R.Row.key g.R.Row.has_key g.met.R.Row.has_key_is
    c.self.inside.rows.entries c.self.invariant.own c.self.invariant.rising)
