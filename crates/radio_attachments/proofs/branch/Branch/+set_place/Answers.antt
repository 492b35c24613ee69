use Rattle.std.proofs.Common.{◌∷◌, ◌++◌, ap, sym, subst, ◌∙◌}
use Rattle.radio_tables.specs.Lists.{update_first}
use Rattle.radio_attachments.specs.Rows.{is_attached, at_place, AreInOrder, Forked}
use Rattle.radio_attachments.proofs.AtFork.{at_fork, its_side, not_its}
use Rattle.radio_attachments.proofs.Forks.{changes_here, changes_less, changes_more, placed_in_order}
use Rattle.radio_attachments.proofs.branch.Branch.+set_place.Goals as goal

pub returns-then-id-deref : goal.returns-then-id-deref
returns-then-id-deref t c =
    let f = at_fork c.self.view_is c.self.invariant (c.in-Some.is) in
    let v = c.in-Some.fork.value in
    let id = c.args.id in
    let one = c.behind-fork.view_is ∙ c.deref.ensures in
    let two = c.behind-fork-then-id-deref.view_is ∙ c.deref_mut.ensures.value in
    let his = sym (c.if-id-deref.true ∙ ap (λ (x : Forked). x.row.id) one) in
    ap (λ (x : Forked). x.less ++ at_place c.args.place x.row ∷ x.more) two
    ∙ sym (changes_here id v.less v.row v.more f.sorted his (at_place c.args.place))
    ∙ ap (update_first (is_attached id) (at_place c.args.place)) (sym f.is)

pub invariant_of-self-then-id-deref : goal.invariant_of-self-then-id-deref
invariant_of-self-then-id-deref t c =
    placed_in_order c.args.id c.args.place c.args.self.now _ (returns-then-id-deref t c) (subst AreInOrder c.self.view_is c.self.invariant)

pub returns-then-comes_before : goal.returns-then-comes_before
returns-then-comes_before t c =
    let f = at_fork c.self.view_is c.self.invariant (c.in-Some.is) in
    let v = c.in-Some.fork.value in
    let id = c.args.id in
    let change = update_first (is_attached id) (at_place c.args.place) in
    let two = c.behind-fork-then-comes_before.view_is ∙ c.deref_mut-then-comes_before.ensures.value in
    let first = its_side id (c.behind-fork-2.view_is ∙ c.deref-2.ensures) c.comes_before.ensures c.if-comes_before.true in
    ap (λ (x : Forked). c.set_place.new.self ++ x.row ∷ x.more) two
    ∙ ap (λ ys. ys ++ v.row ∷ v.more) (c.set_place.ensures ∙ ap (λ (x : Forked). change x.less) two)
    ∙ sym (changes_less id v.less v.row v.more f.sorted first (at_place c.args.place)) ∙ ap change (sym f.is)

pub invariant_of-self-then-comes_before : goal.invariant_of-self-then-comes_before
invariant_of-self-then-comes_before t c =
    placed_in_order c.args.id c.args.place c.args.self.now _ (returns-then-comes_before t c) (subst AreInOrder c.self.view_is c.self.invariant)

pub returns : goal.returns
returns t c =
    let f = at_fork c.self.view_is c.self.invariant (c.in-Some.is) in
    let v = c.in-Some.fork.value in
    let id = c.args.id in
    let change = update_first (is_attached id) (at_place c.args.place) in
    let two = c.behind-fork-3.view_is ∙ c.deref_mut-2.ensures.value in
    let not_first = its_side id (c.behind-fork-2.view_is ∙ c.deref-2.ensures) c.comes_before.ensures c.if-comes_before.false in
    let apart = not_its id (c.behind-fork.view_is ∙ c.deref.ensures) c.if-id-deref.false in
    ap (λ (x : Forked). x.less ++ x.row ∷ c.set_place-2.new.self) two
    ∙ ap (λ ys. v.less ++ v.row ∷ ys) (c.set_place-2.ensures ∙ ap (λ (x : Forked). change x.more) two)
    ∙ sym (changes_more id v.less v.row v.more f.sorted apart not_first (at_place c.args.place)) ∙ ap change (sym f.is)

pub invariant_of-self-2 : goal.invariant_of-self-2
invariant_of-self-2 t c =
    placed_in_order c.args.id c.args.place c.args.self.now _ (returns t c) (subst AreInOrder c.self.view_is c.self.invariant)
