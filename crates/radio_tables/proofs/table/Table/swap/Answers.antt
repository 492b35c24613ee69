use Rattle.std.proofs.Common.{◌≡◌, None, ap, sym, subst, ◌∙◌}
use Rattle.std.specs.Prelude.{find}
use Rattle.std.specs.Option.{option_map_or}
use Rattle.std.specs.Map.{lookup, set_value, values_of}
use Rattle.std.specs.BTreeMap.{is_at}
use Rattle.radio_tables.specs.Entries.{AreOwn}
use Rattle.radio_tables.specs.Lists.{update_first}
use Rattle.radio_tables.proofs.EntryLemmas.{lookup_finds, values-changed, values-unchanged, own-changed}
use Rattle.radio_tables.proofs.table.Table.swap.Goals as goal

pub returns-in_default : goal.returns-in_default
returns-in_default g c =
    let es = c.self.inside.rows.entries in
    let none : lookup (is_at (g.R.Key.Ord.cmp c.args.key.now)) es ≡ None = sym c.in_default.ensures.value in
    let found = sym (lookup_finds g.R.Key.Ord.cmp g.met.R.Key.Ord.total g.R.Row.key g.R.Row.has_key g.met.R.Row.has_key_is c.args.key.now es
    c.self.invariant.own) ∙ none in
    record {
      row =
          ap values_of (ap (λ m. m.entries) c.get_mut.follows.holds-at-none)
          ∙ values-unchanged g.R.Key.Ord.cmp g.met.R.Key.Ord.total g.R.Row.key g.R.Row.has_key g.met.R.Row.has_key_is c.args.key.now
          (g.S.Swap.gives c.args.swap.now) es c.self.invariant.own none
          ∙ ap (update_first (g.R.Row.has_key c.args.key.now) (g.S.Swap.gives c.args.swap.now)) c.self.view_is;
      taken =
          sym (ap (λ o. option_map_or (g.S.Swap.takes c.args.swap.now) o c.args.swap.now)
          (ap (find (g.R.Row.has_key c.args.key.now)) (sym c.self.view_is) ∙ found));
    }

pub invariant_of-self-2 : goal.invariant_of-self-2
invariant_of-self-2 g c =
    let test = is_at (g.R.Key.Ord.cmp c.args.key.now) in
    let es = c.self.inside.rows.entries in
    let written = (c.get_mut.follows.holds c.swap.new.row).0 ∙ ap (set_value test es) c.swap.ensures.given in
    let same_key = g.met.S.Swap.keeps_key c.args.swap.now c.in-Some.row.now in
    record {
      own = subst (AreOwn g.R.Key.Ord.cmp g.R.Row.key) (sym written)
          (own-changed g.R.Key.Ord.cmp g.met.R.Key.Ord.total g.R.Row.key g.R.Row.has_key g.met.R.Row.has_key_is c.args.key.now
          (g.S.Swap.gives c.args.swap.now) c.in-Some.row.now same_key es c.self.invariant.own (sym c.in-Some.ensures.value));
      rising = (c.get_mut.follows.holds c.swap.new.row).4;
    }

pub returns : goal.returns
returns g c =
    let test = is_at (g.R.Key.Ord.cmp c.args.key.now) in
    let es = c.self.inside.rows.entries in
    let found = sym (lookup_finds g.R.Key.Ord.cmp g.met.R.Key.Ord.total g.R.Row.key g.R.Row.has_key g.met.R.Row.has_key_is c.args.key.now es
    c.self.invariant.own) ∙ sym c.in-Some.ensures.value in
    record {
      row =
          ap values_of ((c.get_mut.follows.holds c.swap.new.row).0 ∙ ap (set_value test es) c.swap.ensures.given)
          ∙ values-changed g.R.Key.Ord.cmp g.met.R.Key.Ord.total g.R.Row.key g.R.Row.has_key g.met.R.Row.has_key_is c.args.key.now
          (g.S.Swap.gives c.args.swap.now) c.in-Some.row.now es c.self.invariant.own (sym c.in-Some.ensures.value)
          ∙ ap (update_first (g.R.Row.has_key c.args.key.now) (g.S.Swap.gives c.args.swap.now)) c.self.view_is;
      taken =
          c.swap.ensures.taken
          ∙ sym (ap (λ o. option_map_or (g.S.Swap.takes c.args.swap.now) o c.args.swap.now)
          (ap (find (g.R.Row.has_key c.args.key.now)) (sym c.self.view_is) ∙ found));
    }
