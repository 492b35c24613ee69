use Rattle.std.proofs.Common.{None, Some, ap, refl, sym, subst, ◌∙◌}
use Rattle.std.specs.Prelude.{find}
use Rattle.std.specs.Map.{values_of}
use Rattle.radio_tables.specs.Entries.{AreOwn}
use Rattle.radio_tables.specs.Lists.{update_first}
use Rattle.radio_tables.specs.Visits.{FoundIsVisited}
use Rattle.radio_tables.proofs.EntryLemmas.{lookup_finds, values-changed, own-changed}
use Rattle.radio_tables.proofs.table.Table.visit.Goals as goal

pub returns-in_default : goal.returns-in_default
returns-in_default g c =
    let es = c.self.inside.rows.entries in
    let found = sym (lookup_finds g.R.Key.Ord.cmp g.met.R.Key.Ord.total g.R.Row.key g.R.Row.has_key g.met.R.Row.has_key_is c.args.key.now es
    c.self.invariant.own) ∙ sym c.in_default.ensures.value in
    let same = ap values_of (ap (λ m. m.entries) c.get_mut.follows.holds-at-none) ∙ c.self.view_is in
    subst (FoundIsVisited g.V.RowVisit.visits (g.R.Row.has_key c.args.key.now) c.args.visitor.now c.args.given.now c.args.self.now None c.args.visitor.now
    (values_of c.get_mut.follows.lender-at-none.entries))
    (sym (ap (find (g.R.Row.has_key c.args.key.now)) (sym c.self.view_is) ∙ found)) (refl, refl, same)

pub invariant_of-self-2 : goal.invariant_of-self-2
invariant_of-self-2 g c =
    let es = c.self.inside.rows.entries in
    let row = c.in-Some.row.now in
    let stays = g.met.V.RowVisit.keeps_key c.args.visitor.now c.visit.new.self c.args.given.now row c.visit.new.row c.visit.result c.visit.ensures in
    record {
      own = subst (AreOwn g.R.Key.Ord.cmp g.R.Row.key) (sym (c.get_mut.follows.holds c.visit.new.row).0) (own-changed
          g.R.Key.Ord.cmp g.met.R.Key.Ord.total g.R.Row.key g.R.Row.has_key g.met.R.Row.has_key_is
          c.args.key.now (λ _. c.visit.new.row) row stays es c.self.invariant.own (sym c.in-Some.ensures.value));
      rising = (c.get_mut.follows.holds c.visit.new.row).4;
    }

pub returns : goal.returns
returns g c =
    let es = c.self.inside.rows.entries in
    let row = c.in-Some.row.now in
    let after = c.visit.new.row in
    let found = sym (lookup_finds g.R.Key.Ord.cmp g.met.R.Key.Ord.total g.R.Row.key g.R.Row.has_key g.met.R.Row.has_key_is c.args.key.now es
    c.self.invariant.own) ∙ sym c.in-Some.ensures.value in
    let written =
    ap values_of (c.get_mut.follows.holds after).0
    ∙ values-changed g.R.Key.Ord.cmp g.met.R.Key.Ord.total g.R.Row.key g.R.Row.has_key g.met.R.Row.has_key_is c.args.key.now
    (λ _. after) row es c.self.invariant.own (sym c.in-Some.ensures.value)
    ∙ ap (update_first (g.R.Row.has_key c.args.key.now) (λ _. after)) c.self.view_is in
    subst (FoundIsVisited g.V.RowVisit.visits (g.R.Row.has_key c.args.key.now) c.args.visitor.now c.args.given.now c.args.self.now
    (Some c.visit.result) c.visit.new.self (values_of (c.get_mut.follows.lender after).entries))
    (sym (ap (find (g.R.Row.has_key c.args.key.now)) (sym c.self.view_is) ∙ found)) (c.visit.result, after, refl, written, c.visit.ensures)
