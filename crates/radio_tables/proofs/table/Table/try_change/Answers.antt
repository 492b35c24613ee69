use Rattle.std.proofs.Common.{◌≡◌, None, ap, sym, subst, ◌∙◌}
use Rattle.std.specs.Map.{lookup, set_value, values_of}
use Rattle.std.specs.BTreeMap.{is_at}
use Rattle.std.specs.Prelude.{Result, Ok, Err, OnOk, OnErr}
use Rattle.std.proofs.lemmas.Result.{on_ok_weaker, on_err_weaker}
use Rattle.std.proofs.lemmas.Map.Steps.{set_value_same}
use Rattle.radio_tables.specs.Entries.{AreOwn}
use Rattle.radio_tables.specs.Lists.{update_first}
use Rattle.radio_tables.proofs.EntryLemmas.{values-changed, values-unchanged, own-changed}
use Rattle.radio_tables.proofs.table.Table.try_change.Goals as goal

pub returns-in_default-clause-ok : goal.returns-in_default-clause-ok
returns-in_default-clause-ok g c =
    let none : lookup (is_at (g.R.Key.Ord.cmp c.args.key.now)) c.self.inside.rows.entries ≡ None = sym c.in_default.ensures.value in
    ap values_of (ap (λ m. m.entries) c.get_mut.follows.holds-at-none)
    ∙ values-unchanged g.R.Key.Ord.cmp g.met.R.Key.Ord.total g.R.Row.key g.R.Row.has_key g.met.R.Row.has_key_is
    c.args.key.now (g.C.TryChange.gives c.args.change.now) c.self.inside.rows.entries c.self.invariant.own none
    ∙ ap (update_first (g.R.Row.has_key c.args.key.now) (g.C.TryChange.gives c.args.change.now)) c.self.view_is

-- the row's key is the one that it had, whether it was changed or not
same_key : {T E X K : Type 0} (key : X → K) (r : Result T E) (old given new : X) → OnOk r (new ≡ given) → OnErr r (new ≡ old)
    → key given ≡ key old → key new ≡ key old
same_key key (Ok done) old given new changed kept same = ap key changed ∙ same
same_key key (Err refused) old given new changed kept same = ap key kept

pub invariant_of-self-2 : goal.invariant_of-self-2
invariant_of-self-2 g c =
    let es = c.self.inside.rows.entries in
    let row = c.in-Some.row.now in
    let stays = same_key g.R.Row.key c.try_apply.result row (g.C.TryChange.gives c.args.change.now row) c.try_apply.new.row
    c.try_apply.ensures.ok c.try_apply.ensures.err (g.met.C.TryChange.keeps_key c.args.change.now row) in
    record {
      own = subst (AreOwn g.R.Key.Ord.cmp g.R.Row.key) (sym (c.get_mut.follows.holds c.try_apply.new.row).0) (own-changed
          g.R.Key.Ord.cmp g.met.R.Key.Ord.total g.R.Row.key g.R.Row.has_key g.met.R.Row.has_key_is
          c.args.key.now (λ _. c.try_apply.new.row) row stays es c.self.invariant.own (sym c.in-Some.ensures.value));
      rising = (c.get_mut.follows.holds c.try_apply.new.row).4;
    }

pub returns-clause-ok : goal.returns-clause-ok
returns-clause-ok g c =
    let test = is_at (g.R.Key.Ord.cmp c.args.key.now) in
    let es = c.self.inside.rows.entries in
    on_ok_weaker c.try_apply.result (λ e.
    ap values_of ((c.get_mut.follows.holds c.try_apply.new.row).0 ∙ ap (set_value test es) e)
    ∙ values-changed g.R.Key.Ord.cmp g.met.R.Key.Ord.total g.R.Row.key g.R.Row.has_key g.met.R.Row.has_key_is
    c.args.key.now (g.C.TryChange.gives c.args.change.now) c.in-Some.row.now es c.self.invariant.own (sym c.in-Some.ensures.value)
    ∙ ap (update_first (g.R.Row.has_key c.args.key.now) (g.C.TryChange.gives c.args.change.now)) c.self.view_is) c.try_apply.ensures.ok

pub returns-clause-err : goal.returns-clause-err
returns-clause-err g c =
    let test = is_at (g.R.Key.Ord.cmp c.args.key.now) in
    let es = c.self.inside.rows.entries in
    on_err_weaker c.try_apply.result (λ e.
    ap values_of ((c.get_mut.follows.holds c.try_apply.new.row).0 ∙ ap (set_value test es) e
    ∙ set_value_same test es c.in-Some.row.now (sym c.in-Some.ensures.value))
    ∙ c.self.view_is) c.try_apply.ensures.err
